-- A new engine's crew did nothing yet.
use Rattle.std.proofs.Common.{◌≡◌, ℕ, [], sym, ap, subst, ◌∙◌, arith}
use Rattle.acct_base.specs.declared.sizes.Sizes.{Sizes}
use Rattle.acct_base.specs.Amounts.{zero_amount}
use Rattle.desk_core.specs.Book.{BookView}
use Rattle.script_text.specs.declared.header.Header.{Header}
use Rattle.reg_words.specs.Seats.{WriterState}
use Rattle.grace_rows.specs.Seats.{CollectState}
use Rattle.total_rows.specs.Seats.{SeatState, known}
use Rattle.hook_engine.specs.Passes.{Pass, fresh}
use Rattle.hook_engine.specs.Tables.{EngineState, PassState, AreSeatsOf}
use Rattle.desk_regs.specs.Desks.{DeskState, IsLevel as IsLevelDesk}
use Rattle.collector.specs.Collectors.{CollectorState, IsLevel, gathered_by}
use Rattle.lanes.specs.declared.crew.Crew.{Crew}
use Rattle.replay_main.specs.OnEngine.{IsOpened}

pub opened_is : (h : Header) (engine : EngineState) (crew : Crew) (writer : WriterState) (seat : CollectState) (apps : SeatState) (book : BookView) → engine.sizes ≡ h.sizes →
    crew.pass ≡ record { tables = engine.tables; has = fresh h.sizes.calls; loads = 0; loaded = 0; notes = [] } → AreSeatsOf engine.tables writer seat apps → crew.desk ≡ record { writer = writer; book = book } → IsLevelDesk crew.desk →
    crew.collector ≡ record { seat = seat; apps = apps; phases = [] } → IsLevel (gathered_by crew.collector) → seat.phase ≡ 0 → seat.snapshots ≡ [] → ((uid : ℕ) → known apps uid ≡ zero_amount) → book.journal ≡ [] → book.privileged ≡ h.privileged →
    IsOpened h engine crew
opened_is h engine crew writer seat apps book sizes pass seats desk level collector even phase given knows journal privileged =
    let has : crew.pass.has ≡ fresh h.sizes.calls = ap (λ (p : PassState). p.has) pass in
    let left : crew.pass.has.left ≡ h.sizes.calls = ap (λ (p : Pass). p.left) has in
    let made : crew.pass.has.made ≡ 0 = ap (λ (p : Pass). p.made) has in
    let calls : engine.sizes.calls ≡ h.sizes.calls = ap (λ (s : Sizes). s.calls) sizes in
    let written : crew.desk.book.journal ≡ [] = ap (λ (d : DeskState). d.book.journal) desk ∙ journal in
    let gathered : gathered_by crew.collector ≡ record { phase = 0; given = []; known = λ uid. zero_amount; phases = [] } =
    ap gathered_by collector ∙ (λ i. record { phase = phase i; given = given i; known = λ uid. knows uid i; phases = [] }) in
    record {
      sizes = sizes;
      ready = record {
        of = record {
          pass = ap (λ (p : PassState). p.tables) pass;
          seats = subst (λ (z : DeskState × CollectorState). AreSeatsOf engine.tables z.0.writer z.1.seat z.1.apps) (λ i. (sym desk i, sym collector i)) seats;
        };
        whole = record {
          sole = omega (arith, left, made, calls);
          level = even;
        };
        desk = level;
      };
      first = λ i. record { pass = has i; journal = written i; gathered = gathered i };
      privileged = ap (λ (d : DeskState). d.book.privileged) desk ∙ privileged;
    }

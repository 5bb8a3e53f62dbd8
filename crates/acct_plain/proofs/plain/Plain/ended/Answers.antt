use Rattle.std.proofs.Common.{sym, ap, subst, ◌∙◌, length, ℕ, Option, Some, None}
use Rattle.std.specs.Prelude.{filter, not}
use Rattle.shelf.specs.Shelved.{Phases}
use Rattle.shelf.specs.Phases.{is_deleted}
use Rattle.acct_plain.specs.Kept.{Tables, Keeps}
use Rattle.acct_plain.specs.Ending.{ended_by}
use Rattle.acct_plain.proofs.Items.{rows_are}
use Rattle.acct_plain.proofs.plain.Plain.ended.Goals as goal

pub returns-in-None : goal.returns-in-None
returns-in-None c = λ past n k.
    let phase = c.len-phase.ensures ∙ ap (λ (t : Tables). length t.phases) c.self.view_is ∙ ap (λ (ps : Phases). length ps) k.phases in
    let kept = subst (λ (t : Tables). Keeps t past n) (sym c.self.view_is) k in
    let rows = c.in_ok-rows.ensures.rows ∙ rows_are past.charges (length past.phases) c.self.inside.rows c.in_ok-rows.ensures.ordered kept.rows in
    (λ i. (record { phase = phase i; rows = rows i }, None)) ∙ ap (λ (o : Option (ℕ × ℕ)). ended_by past o) (sym c.in-None.is)

pub returns-in_ok-left-in-Some : goal.returns-in_ok-left-in-Some
returns-in_ok-left-in-Some c = λ past n k.
    let uid = c.in-Some.uid in
    let tag = c.in-Some.tag in
    let phase = c.len-phase.ensures ∙ ap (λ (t : Tables). length t.phases) c.self.view_is ∙ ap (λ (ps : Phases). length ps) k.phases in
    let kept = subst (λ (t : Tables). Keeps t past n) (sym c.self.view_is) k in
    let rows = c.in_ok-rows.ensures.rows ∙ rows_are past.charges (length past.phases) c.self.inside.rows c.in_ok-rows.ensures.ordered kept.rows in
    let given = c.as_slice.ensures ∙ rows in
    let left = c.in_ok-left-in-Some.ensures.left ∙ ap (filter (λ row. not (is_deleted uid tag row))) given in
    let taken = c.in_ok-left-in-Some.ensures.taken ∙ ap (filter (is_deleted uid tag)) given in
    let app = c.app_now-app.ensures past n k in
    (λ i. (record { phase = phase i; rows = left i }, Some (record { phase = phase i; uid = uid; tag = tag; rows = taken i; app = app i })))
    ∙ ap (λ (o : Option (ℕ × ℕ)). ended_by past o) (sym c.in-Some.is)

use Rattle.std.proofs.Common.{rules, sym, subst, arith}
use Rattle.replay_main.proofs.Outsides.{complete_run, exact_run, plain_run}
use Rattle.replay_main.proofs.WordLists.{plain_too, usage_apart, same_text, generated_too, no_gen, no_bulk}
use Rattle.replay_main.proofs.InBulk.{is_left, none_of_text, nothing_decides, bulk_is_done}
use Rattle.replay_main.specs.declared.fault.Fault.TheVariants as fault
use Rattle.replay_main.proofs.OneJudgement.{script_has_no_fault, one_fault}
use Rattle.replay_main.specs.declared.words.Form.TheVariants.{Replay, Plain, Check, Gen, Bulk}
use Rattle.replay_main.specs.Run.{WasSo, TellsSo, DecidesOn, LooksLikeScript}
use Rattle.replay_main.specs.Words.{AskFor}
use Rattle.replay_main.proofs.runs.run.Goals as goal

pub returns-in-Some-Replay-clause-done : goal.returns-in-Some-Replay-clause-done
returns-in-Some-Replay-clause-done g c = λ none. (Replay c.in-Some-Replay.receipts, search rules, c.replay_to.ensures.done none)

pub returns-in-Some-Replay-clause-cut_off : goal.returns-in-Some-Replay-clause-cut_off
returns-in-Some-Replay-clause-cut_off g c = λ is. (Replay c.in-Some-Replay.receipts, search rules, c.replay_to.ensures.cut_off is)

pub returns-in-Some-Replay-clause-complete : goal.returns-in-Some-Replay-clause-complete
returns-in-Some-Replay-clause-complete g c = λ form words tells unread unwritten.
    let asks : AskFor c.args.words.now (Replay c.in-Some-Replay.receipts) = search rules in
    let same = same_text c.args.words.now form (Replay c.in-Some-Replay.receipts) (g.S.Source.left c.args.source.now) words asks in
    let e = c.replay_to.ensures in
    complete_run _ _ _ _ e.usage e.read_fault unread e.write_fault unwritten e.decides script_has_no_fault (subst (TellsSo LooksLikeScript) same tells)

pub returns-in-Some-Replay-clause-exact : goal.returns-in-Some-Replay-clause-exact
returns-in-Some-Replay-clause-exact g c = λ form f words tells unread unwritten.
    let asks : AskFor c.args.words.now (Replay c.in-Some-Replay.receipts) = search rules in
    let same = same_text c.args.words.now form (Replay c.in-Some-Replay.receipts) (g.S.Source.left c.args.source.now) words asks in
    let e = c.replay_to.ensures in
    exact_run _ _ _ _ e.usage e.read_fault unread e.write_fault unwritten e.decides script_has_no_fault one_fault f (subst (TellsSo (DecidesOn f)) same tells) e.script

pub returns-in-Some-Replay-clause-decides : goal.returns-in-Some-Replay-clause-decides
returns-in-Some-Replay-clause-decides g c = λ form f words is of.
    let asks : AskFor c.args.words.now (Replay c.in-Some-Replay.receipts) = search rules in
    let same = same_text c.args.words.now form (Replay c.in-Some-Replay.receipts) (g.S.Source.left c.args.source.now) words asks in
    let e = c.replay_to.ensures in
    subst (WasSo (DecidesOn f)) (sym same) (e.decides f is of)

pub returns-in-Some-Replay-clause-generates : goal.returns-in-Some-Replay-clause-generates
returns-in-Some-Replay-clause-generates g c = λ rounds words.
    let asks : AskFor c.args.words.now (Replay c.in-Some-Replay.receipts) = search rules in
    absurd (no_gen c.args.words.now rounds (Replay c.in-Some-Replay.receipts) words asks (λ e. omega (arith, e)))

pub returns-in-Some-Replay-clause-made : goal.returns-in-Some-Replay-clause-made
returns-in-Some-Replay-clause-made g c = λ form is words.
    let asks : AskFor c.args.words.now (Replay c.in-Some-Replay.receipts) = search rules in
    absurd (generated_too c.args.words.now form (Replay c.in-Some-Replay.receipts) words asks is)

pub returns-in-Some-Plain-clause-done : goal.returns-in-Some-Plain-clause-done
returns-in-Some-Plain-clause-done g c = λ none. let d = c.run_plain.ensures.done none in (d.0, d.2, plain_run d.0 _ _ _ _ _ _ d.1 d.3)

pub returns-in-Some-Plain-clause-cut_off : goal.returns-in-Some-Plain-clause-cut_off
returns-in-Some-Plain-clause-cut_off g c = λ is. let d = c.run_plain.ensures.cut_off is in (d.0, d.2, plain_run d.0 _ _ _ _ _ _ d.1 d.3)

pub returns-in-Some-Plain-clause-usage : goal.returns-in-Some-Plain-clause-usage
returns-in-Some-Plain-clause-usage g c =
    let asks : AskFor c.args.words.now (Plain c.in-Some-Plain.field-0-0) = search rules in
    usage_apart _ c.args.words.now (Plain c.in-Some-Plain.field-0-0) tt asks c.run_plain.ensures.usage

pub returns-in-Some-Plain-clause-complete : goal.returns-in-Some-Plain-clause-complete
returns-in-Some-Plain-clause-complete g c = λ form words tells unread unwritten.
    let asks : AskFor c.args.words.now (Plain c.in-Some-Plain.field-0-0) = search rules in
    c.run_plain.ensures.complete form (plain_too c.args.words.now form (Plain c.in-Some-Plain.field-0-0) words asks tt) words tells unread unwritten

pub returns-in-Some-Plain-clause-exact : goal.returns-in-Some-Plain-clause-exact
returns-in-Some-Plain-clause-exact g c = λ form f words tells unread unwritten.
    let asks : AskFor c.args.words.now (Plain c.in-Some-Plain.field-0-0) = search rules in
    c.run_plain.ensures.exact form f (plain_too c.args.words.now form (Plain c.in-Some-Plain.field-0-0) words asks tt) words tells unread unwritten

pub returns-in-Some-Plain-clause-decides : goal.returns-in-Some-Plain-clause-decides
returns-in-Some-Plain-clause-decides g c = c.run_plain.ensures.decides

pub returns-in-Some-Plain-clause-generates : goal.returns-in-Some-Plain-clause-generates
returns-in-Some-Plain-clause-generates g c = c.run_plain.ensures.generates

pub returns-in-Some-Plain-clause-made : goal.returns-in-Some-Plain-clause-made
returns-in-Some-Plain-clause-made g c = c.run_plain.ensures.made

pub returns-in-Some-Check-clause-done : goal.returns-in-Some-Check-clause-done
returns-in-Some-Check-clause-done g c = λ none. let d = c.run_plain-in-Some-Check.ensures.done none in (d.0, d.2, plain_run d.0 _ _ _ _ _ _ d.1 d.3)

pub returns-in-Some-Check-clause-cut_off : goal.returns-in-Some-Check-clause-cut_off
returns-in-Some-Check-clause-cut_off g c = λ is. let d = c.run_plain-in-Some-Check.ensures.cut_off is in (d.0, d.2, plain_run d.0 _ _ _ _ _ _ d.1 d.3)

pub returns-in-Some-Check-clause-usage : goal.returns-in-Some-Check-clause-usage
returns-in-Some-Check-clause-usage g c =
    let asks : AskFor c.args.words.now Check = search rules in
    usage_apart _ c.args.words.now Check tt asks c.run_plain-in-Some-Check.ensures.usage

pub returns-in-Some-Check-clause-complete : goal.returns-in-Some-Check-clause-complete
returns-in-Some-Check-clause-complete g c = λ form words tells unread unwritten.
    let asks : AskFor c.args.words.now Check = search rules in
    c.run_plain-in-Some-Check.ensures.complete form (plain_too c.args.words.now form Check words asks tt) words tells unread unwritten

pub returns-in-Some-Check-clause-exact : goal.returns-in-Some-Check-clause-exact
returns-in-Some-Check-clause-exact g c = λ form f words tells unread unwritten.
    let asks : AskFor c.args.words.now Check = search rules in
    c.run_plain-in-Some-Check.ensures.exact form f (plain_too c.args.words.now form Check words asks tt) words tells unread unwritten

pub returns-in-Some-Check-clause-decides : goal.returns-in-Some-Check-clause-decides
returns-in-Some-Check-clause-decides g c = c.run_plain-in-Some-Check.ensures.decides

pub returns-in-Some-Check-clause-generates : goal.returns-in-Some-Check-clause-generates
returns-in-Some-Check-clause-generates g c = c.run_plain-in-Some-Check.ensures.generates

pub returns-in-Some-Check-clause-made : goal.returns-in-Some-Check-clause-made
returns-in-Some-Check-clause-made g c = c.run_plain-in-Some-Check.ensures.made

pub returns-in-Some-Gen-clause-done : goal.returns-in-Some-Gen-clause-done
returns-in-Some-Gen-clause-done g c = λ none. let d = c.run_plain-in-Some-Gen.ensures.done none in (d.0, d.2, plain_run d.0 _ _ _ _ _ _ d.1 d.3)

pub returns-in-Some-Gen-clause-cut_off : goal.returns-in-Some-Gen-clause-cut_off
returns-in-Some-Gen-clause-cut_off g c = λ is. let d = c.run_plain-in-Some-Gen.ensures.cut_off is in (d.0, d.2, plain_run d.0 _ _ _ _ _ _ d.1 d.3)

pub returns-in-Some-Gen-clause-usage : goal.returns-in-Some-Gen-clause-usage
returns-in-Some-Gen-clause-usage g c =
    let asks : AskFor c.args.words.now (Gen c.in-Some-Gen.field-0-0) = search rules in
    usage_apart _ c.args.words.now (Gen c.in-Some-Gen.field-0-0) tt asks c.run_plain-in-Some-Gen.ensures.usage

pub returns-in-Some-Gen-clause-complete : goal.returns-in-Some-Gen-clause-complete
returns-in-Some-Gen-clause-complete g c = λ form words tells unread unwritten.
    let asks : AskFor c.args.words.now (Gen c.in-Some-Gen.field-0-0) = search rules in
    c.run_plain-in-Some-Gen.ensures.complete form (plain_too c.args.words.now form (Gen c.in-Some-Gen.field-0-0) words asks tt) words tells unread unwritten

pub returns-in-Some-Gen-clause-exact : goal.returns-in-Some-Gen-clause-exact
returns-in-Some-Gen-clause-exact g c = λ form f words tells unread unwritten.
    let asks : AskFor c.args.words.now (Gen c.in-Some-Gen.field-0-0) = search rules in
    c.run_plain-in-Some-Gen.ensures.exact form f (plain_too c.args.words.now form (Gen c.in-Some-Gen.field-0-0) words asks tt) words tells unread unwritten

pub returns-in-Some-Gen-clause-decides : goal.returns-in-Some-Gen-clause-decides
returns-in-Some-Gen-clause-decides g c = c.run_plain-in-Some-Gen.ensures.decides

pub returns-in-Some-Gen-clause-generates : goal.returns-in-Some-Gen-clause-generates
returns-in-Some-Gen-clause-generates g c = c.run_plain-in-Some-Gen.ensures.generates

pub returns-in-Some-Gen-clause-made : goal.returns-in-Some-Gen-clause-made
returns-in-Some-Gen-clause-made g c = c.run_plain-in-Some-Gen.ensures.made

pub returns-in-Some-Bulk-clause-done : goal.returns-in-Some-Bulk-clause-done
returns-in-Some-Bulk-clause-done g c = λ none.
    let asks : AskFor c.args.words.now (Bulk c.in-Some-Bulk.rounds) = search rules in
    (Bulk c.in-Some-Bulk.rounds, asks, c.bulk_to.ensures.done _ none)

pub returns-in-Some-Bulk-clause-cut_off : goal.returns-in-Some-Bulk-clause-cut_off
returns-in-Some-Bulk-clause-cut_off g c = λ is.
    let asks : AskFor c.args.words.now (Bulk c.in-Some-Bulk.rounds) = search rules in
    (Bulk c.in-Some-Bulk.rounds, asks, c.bulk_to.ensures.cut_off _ is)

pub returns-in-Some-Bulk-clause-usage : goal.returns-in-Some-Bulk-clause-usage
returns-in-Some-Bulk-clause-usage g c =
    let asks : AskFor c.args.words.now (Bulk c.in-Some-Bulk.rounds) = search rules in
    (λ is. absurd (is_left fault.Usage (c.bulk_to.ensures.faults fault.Usage is)), λ none. absurd (none (Bulk c.in-Some-Bulk.rounds) asks))

pub returns-in-Some-Bulk-clause-read_fault : goal.returns-in-Some-Bulk-clause-read_fault
returns-in-Some-Bulk-clause-read_fault g c = λ is. absurd (is_left fault.ReadFault (c.bulk_to.ensures.faults fault.ReadFault is))

pub returns-in-Some-Bulk-clause-complete : goal.returns-in-Some-Bulk-clause-complete
returns-in-Some-Bulk-clause-complete g c = λ form words tells unread unwritten.
    bulk_is_done _ _ c.bulk_to.ensures.faults c.bulk_to.ensures.write_fault unwritten

pub returns-in-Some-Bulk-clause-exact : goal.returns-in-Some-Bulk-clause-exact
returns-in-Some-Bulk-clause-exact g c = λ form f words tells unread unwritten.
    let asks : AskFor c.args.words.now (Bulk c.in-Some-Bulk.rounds) = search rules in
    let same = same_text c.args.words.now form (Bulk c.in-Some-Bulk.rounds) (g.S.Source.left c.args.source.now) words asks in
    absurd (nothing_decides c.in-Some-Bulk.rounds f asks.0 (subst (TellsSo (DecidesOn f)) same tells))

pub returns-in-Some-Bulk-clause-decides : goal.returns-in-Some-Bulk-clause-decides
returns-in-Some-Bulk-clause-decides g c = λ form f words is of. absurd (none_of_text f (is_left f (c.bulk_to.ensures.faults f is)) of)

pub returns-in-Some-Bulk-clause-generates : goal.returns-in-Some-Bulk-clause-generates
returns-in-Some-Bulk-clause-generates g c = λ rounds words.
    let asks : AskFor c.args.words.now (Bulk c.in-Some-Bulk.rounds) = search rules in
    absurd (no_gen c.args.words.now rounds (Bulk c.in-Some-Bulk.rounds) words asks (λ e. omega (arith, e)))

pub returns-in-None-clause-generates : goal.returns-in-None-clause-generates
returns-in-None-clause-generates g c = λ rounds words. absurd (c.in-None.ensures.none (Gen rounds) words)

pub returns-in-Some-Bulk-clause-in_bulk : goal.returns-in-Some-Bulk-clause-in_bulk
returns-in-Some-Bulk-clause-in_bulk g c = λ rounds f words is. c.bulk_to.ensures.faults f is

pub returns-in-Some-Replay-clause-in_bulk : goal.returns-in-Some-Replay-clause-in_bulk
returns-in-Some-Replay-clause-in_bulk g c = λ rounds f words is.
    let asks : AskFor c.args.words.now (Replay c.in-Some-Replay.receipts) = search rules in
    absurd (no_bulk c.args.words.now rounds (Replay c.in-Some-Replay.receipts) words asks (λ e. omega (arith, e)))

pub returns-in-Some-Plain-clause-in_bulk : goal.returns-in-Some-Plain-clause-in_bulk
returns-in-Some-Plain-clause-in_bulk g c = λ rounds f words is.
    let asks : AskFor c.args.words.now (Plain c.in-Some-Plain.field-0-0) = search rules in
    absurd (no_bulk c.args.words.now rounds (Plain c.in-Some-Plain.field-0-0) words asks (λ e. omega (arith, e)))

pub returns-in-Some-Check-clause-in_bulk : goal.returns-in-Some-Check-clause-in_bulk
returns-in-Some-Check-clause-in_bulk g c = λ rounds f words is.
    let asks : AskFor c.args.words.now Check = search rules in
    absurd (no_bulk c.args.words.now rounds Check words asks (λ e. omega (arith, e)))

pub returns-in-Some-Gen-clause-in_bulk : goal.returns-in-Some-Gen-clause-in_bulk
returns-in-Some-Gen-clause-in_bulk g c = λ rounds f words is.
    let asks : AskFor c.args.words.now (Gen c.in-Some-Gen.field-0-0) = search rules in
    absurd (no_bulk c.args.words.now rounds (Gen c.in-Some-Gen.field-0-0) words asks (λ e. omega (arith, e)))

pub returns-in-None-clause-in_bulk : goal.returns-in-None-clause-in_bulk
returns-in-None-clause-in_bulk g c = λ rounds f words is. absurd (c.in-None.ensures.none (Bulk rounds) words)

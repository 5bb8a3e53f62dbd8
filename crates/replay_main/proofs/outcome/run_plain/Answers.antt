use Rattle.std.proofs.Common.{rules, sym, subst, arith}
use Rattle.replay_main.proofs.Outsides.{complete_run, exact_run, gen_run, gen_fault}
use Rattle.replay_main.proofs.WordLists.{same_text, generated_too, no_gen}
use Rattle.replay_main.proofs.OneJudgement.{script_has_no_fault, one_fault}
use Rattle.replay_main.specs.declared.words.Form.TheVariants.{Replay, Plain, Check, Gen, Bulk}
use Rattle.replay_main.specs.Run.{WasSo, TellsSo, DecidesOn, LooksLikeScript}
use Rattle.replay_main.specs.Words.{AskFor}
use Rattle.replay_main.proofs.outcome.run_plain.Goals as goal

pub returns-in-Some-Plain-clause-complete : goal.returns-in-Some-Plain-clause-complete
returns-in-Some-Plain-clause-complete g c = λ form is_plain words tells unread unwritten.
    let asks : AskFor c.args.words.now (Plain c.in-Some-Plain.receipts) = search rules in
    let same = same_text c.args.words.now form (Plain c.in-Some-Plain.receipts) (g.S.Source.left c.args.source.now) words asks in
    let e = c.plain_to.ensures in
    complete_run _ _ _ _ e.usage e.read_fault unread e.write_fault unwritten e.decides script_has_no_fault (subst (TellsSo LooksLikeScript) same tells)

pub returns-in-Some-Plain-clause-exact : goal.returns-in-Some-Plain-clause-exact
returns-in-Some-Plain-clause-exact g c = λ form f is_plain words tells unread unwritten.
    let asks : AskFor c.args.words.now (Plain c.in-Some-Plain.receipts) = search rules in
    let same = same_text c.args.words.now form (Plain c.in-Some-Plain.receipts) (g.S.Source.left c.args.source.now) words asks in
    let e = c.plain_to.ensures in
    exact_run _ _ _ _ e.usage e.read_fault unread e.write_fault unwritten e.decides script_has_no_fault one_fault f (subst (TellsSo (DecidesOn f)) same tells) e.script

pub returns-in-Some-Plain-clause-decides : goal.returns-in-Some-Plain-clause-decides
returns-in-Some-Plain-clause-decides g c = λ form f words is of.
    let asks : AskFor c.args.words.now (Plain c.in-Some-Plain.receipts) = search rules in
    let same = same_text c.args.words.now form (Plain c.in-Some-Plain.receipts) (g.S.Source.left c.args.source.now) words asks in
    let e = c.plain_to.ensures in
    subst (WasSo (DecidesOn f)) (sym same) (e.decides f is of)

pub returns-in-Some-Plain-clause-generates : goal.returns-in-Some-Plain-clause-generates
returns-in-Some-Plain-clause-generates g c = λ rounds words.
    let asks : AskFor c.args.words.now (Plain c.in-Some-Plain.receipts) = search rules in
    absurd (no_gen c.args.words.now rounds (Plain c.in-Some-Plain.receipts) words asks (λ e. omega (arith, e)))

pub returns-in-Some-Plain-clause-made : goal.returns-in-Some-Plain-clause-made
returns-in-Some-Plain-clause-made g c = λ form is words.
    let asks : AskFor c.args.words.now (Plain c.in-Some-Plain.receipts) = search rules in
    absurd (generated_too c.args.words.now form (Plain c.in-Some-Plain.receipts) words asks is)

pub returns-in-Some-Check-clause-complete : goal.returns-in-Some-Check-clause-complete
returns-in-Some-Check-clause-complete g c = λ form is_plain words tells unread unwritten.
    let asks : AskFor c.args.words.now Check = search rules in
    let same = same_text c.args.words.now form Check (g.S.Source.left c.args.source.now) words asks in
    let e = c.check_to.ensures in
    complete_run _ _ _ _ e.usage e.read_fault unread e.write_fault unwritten e.decides script_has_no_fault (subst (TellsSo LooksLikeScript) same tells)

pub returns-in-Some-Check-clause-exact : goal.returns-in-Some-Check-clause-exact
returns-in-Some-Check-clause-exact g c = λ form f is_plain words tells unread unwritten.
    let asks : AskFor c.args.words.now Check = search rules in
    let same = same_text c.args.words.now form Check (g.S.Source.left c.args.source.now) words asks in
    let e = c.check_to.ensures in
    exact_run _ _ _ _ e.usage e.read_fault unread e.write_fault unwritten e.decides script_has_no_fault one_fault f (subst (TellsSo (DecidesOn f)) same tells) e.script

pub returns-in-Some-Check-clause-decides : goal.returns-in-Some-Check-clause-decides
returns-in-Some-Check-clause-decides g c = λ form f words is of.
    let asks : AskFor c.args.words.now Check = search rules in
    let same = same_text c.args.words.now form Check (g.S.Source.left c.args.source.now) words asks in
    let e = c.check_to.ensures in
    subst (WasSo (DecidesOn f)) (sym same) (e.decides f is of)

pub returns-in-Some-Check-clause-generates : goal.returns-in-Some-Check-clause-generates
returns-in-Some-Check-clause-generates g c = λ rounds words.
    let asks : AskFor c.args.words.now Check = search rules in
    absurd (no_gen c.args.words.now rounds Check words asks (λ e. omega (arith, e)))

pub returns-in-Some-Check-clause-made : goal.returns-in-Some-Check-clause-made
returns-in-Some-Check-clause-made g c = λ form is words.
    let asks : AskFor c.args.words.now Check = search rules in
    absurd (generated_too c.args.words.now form Check words asks is)

pub returns-in-Some-Check-clause-done : goal.returns-in-Some-Check-clause-done
returns-in-Some-Check-clause-done g c = λ none. (Check, tt, search rules, c.check_to.ensures.done none)

pub returns-in-Some-Gen-clause-done : goal.returns-in-Some-Gen-clause-done
returns-in-Some-Gen-clause-done g c = λ none.
    let asks : AskFor c.args.words.now (Gen c.in-Some-Gen.rounds) = search rules in
    (Gen c.in-Some-Gen.rounds, tt, asks, gen_run c.in-Some-Gen.rounds _ _ _ _ _ c.gen_to.ensures.report (c.gen_to.ensures.done none))

pub returns-in-Some-Gen-clause-cut_off : goal.returns-in-Some-Gen-clause-cut_off
returns-in-Some-Gen-clause-cut_off g c = λ is.
    let asks : AskFor c.args.words.now (Gen c.in-Some-Gen.rounds) = search rules in
    (Gen c.in-Some-Gen.rounds, tt, asks, gen_run c.in-Some-Gen.rounds _ _ _ _ _ c.gen_to.ensures.report (c.gen_to.ensures.cut_off is))

pub returns-in-Some-Gen-clause-usage : goal.returns-in-Some-Gen-clause-usage
returns-in-Some-Gen-clause-usage g c =
    let asks : AskFor c.args.words.now (Gen c.in-Some-Gen.rounds) = search rules in
    (λ is. absurd (let w = gen_fault _ _ c.gen_to.ensures.faults is in cc), λ none. absurd (none (Gen c.in-Some-Gen.rounds) tt asks))

pub returns-in-Some-Gen-clause-read_fault : goal.returns-in-Some-Gen-clause-read_fault
returns-in-Some-Gen-clause-read_fault g c = λ is. absurd (let w = gen_fault _ _ c.gen_to.ensures.faults is in cc)

pub returns-in-Some-Gen-clause-complete : goal.returns-in-Some-Gen-clause-complete
returns-in-Some-Gen-clause-complete g c = λ form is_plain words tells unread unwritten.
    let asks : AskFor c.args.words.now (Gen c.in-Some-Gen.rounds) = search rules in
    let same = same_text c.args.words.now form (Gen c.in-Some-Gen.rounds) (g.S.Source.left c.args.source.now) words asks in
    absurd (subst (TellsSo LooksLikeScript) same tells)

pub returns-in-Some-Gen-clause-exact : goal.returns-in-Some-Gen-clause-exact
returns-in-Some-Gen-clause-exact g c = λ form f is_plain words tells unread unwritten.
    let asks : AskFor c.args.words.now (Gen c.in-Some-Gen.rounds) = search rules in
    let same = same_text c.args.words.now form (Gen c.in-Some-Gen.rounds) (g.S.Source.left c.args.source.now) words asks in
    absurd (subst (TellsSo (DecidesOn f)) same tells)

pub returns-in-Some-Gen-clause-decides : goal.returns-in-Some-Gen-clause-decides
returns-in-Some-Gen-clause-decides g c = λ form f words is of.
    let asks : AskFor c.args.words.now (Gen c.in-Some-Gen.rounds) = search rules in
    let same = same_text c.args.words.now form (Gen c.in-Some-Gen.rounds) (g.S.Source.left c.args.source.now) words asks in
    subst (WasSo (DecidesOn f)) (sym same) tt

pub returns-in-Some-Gen-clause-refused : goal.returns-in-Some-Gen-clause-refused
returns-in-Some-Gen-clause-refused g c = λ f is other. absurd (other (gen_fault _ _ c.gen_to.ensures.faults is))

pub returns-in-None-clause-generates : goal.returns-in-None-clause-generates
returns-in-None-clause-generates g c = λ rounds words. absurd (c.in-None.ensures.none (Gen rounds) words)

pub returns-in-Some-Replay-clause-generates : goal.returns-in-Some-Replay-clause-generates
returns-in-Some-Replay-clause-generates g c = λ rounds words.
    let asks : AskFor c.args.words.now (Replay c.in-Some-Replay.field-0-0) = search rules in
    absurd (no_gen c.args.words.now rounds (Replay c.in-Some-Replay.field-0-0) words asks (λ e. omega (arith, e)))

pub returns-in-Some-Bulk-clause-generates : goal.returns-in-Some-Bulk-clause-generates
returns-in-Some-Bulk-clause-generates g c = λ rounds words.
    let asks : AskFor c.args.words.now (Bulk c.in-Some-Bulk.field-0-0) = search rules in
    absurd (no_gen c.args.words.now rounds (Bulk c.in-Some-Bulk.field-0-0) words asks (λ e. omega (arith, e)))

use Rattle.std.proofs.Common.{◌∷◌, ◌∙◌, ℕ, sym, ap, arith, refl}
use Rattle.script_text.proofs.Runs.{number_before}
use Rattle.script_text.proofs.front.Front.number.Goals as goal

pub returns : goal.returns
returns c = (
  record { least_is = omega arith; most_is = c.in_ok-number.ensures.run.fits },
  sym c.self.view_is ∙ number_before c.self.inside.rest.now _ _ c.in_ok-byte.behind.now c.args.most c.in_ok-number.at c.in_ok-number.number c.args.end (omega (arith, c.requires)) c.in_ok-number.ensures.run c.split_at.ensures.front c.split_at.ensures.back (c.if-not-is_plain.ensures.plain refl) (c.in_ok-byte.ensures.cases.0 ∙ ap (λ (b : ℕ). b ∷ c.in_ok-byte.behind.now) c.if-byte-end.false),
)

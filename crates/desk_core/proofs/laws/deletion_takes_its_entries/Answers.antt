use Rattle.std.proofs.Common.{◌≡◌, ℕ, Bool, true, false, List, refl, ap, ◌∙◌}
use Rattle.std.specs.Prelude.{if◌then◌else◌, Option, None}
use Rattle.acct_base.specs.declared.register.Key.{Key}
use Rattle.acct_base.specs.declared.register.Key.TheVariants as key
use Rattle.acct_base.specs.declared.register.Write.{Write}
use Rattle.acct_base.specs.declared.sizes.RegSizes.{RegSizes}
use Rattle.acct_base.specs.Journal.{current}
use Rattle.desk_core.specs.declared.command.Command.TheVariants.{Delete}
use Rattle.desk_core.specs.declared.command.Reply.TheVariants.{Done}
use Rattle.desk_core.specs.Commands.{reply, entry_matches}
use Rattle.desk_core.specs.Laws.{value_then, deletes}
use Rattle.desk_core.proofs.ValueLemmas.{after-done, deleted}
use Rattle.desk_core.proofs.laws.deletion_takes_its_entries.Goals as goal

whole : (journal : List Write) (privileged : List ℕ) (limits : RegSizes) (caller uid tag : ℕ) (k : Key) → reply journal privileged limits (Delete caller uid tag) ≡ Done
    → value_then journal privileged limits (Delete caller uid tag) k ≡ (if deletes uid tag k (current journal k) then None else current journal k)
whole journal privileged limits caller uid tag k done =
    ap (λ (j : List Write). current j k) (after-done journal privileged limits (Delete caller uid tag) done) ∙ deleted journal uid tag k

left : (uid tag : ℕ) (o : Option ℕ) (b : Bool) → entry_matches uid tag o ≡ b → entry_matches uid tag (if b then None else o) ≡ false
left uid tag o true e = refl
left uid tag o false e = e

pub returns-clause-whole : goal.returns-clause-whole
returns-clause-whole c = whole

pub returns-clause-none_tagged : goal.returns-clause-none_tagged
returns-clause-none_tagged c = λ journal privileged limits caller uid tag cookie done.
    ap (entry_matches uid tag) (whole journal privileged limits caller uid tag (key.Cookie cookie) done)
    ∙ left uid tag (current journal (key.Cookie cookie)) (entry_matches uid tag (current journal (key.Cookie cookie))) refl

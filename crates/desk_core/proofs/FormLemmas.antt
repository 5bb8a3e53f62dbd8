-- What commands write has the form that registers ask for.
use Rattle.std.proofs.Common.{◌≡◌, ◌≢◌, ℕ, suc, ◌-◌, ◌^◌, ◌≤◌, ◌<◌, List, [], ◌∷◌, ◌++◌, length, map, refl, sym, ap, subst, ◌∙◌, arith, Option, Some, None, Bool, true, false, true≢false}
use Rattle.std.specs.Prelude.{IfSome, ◌==◌, if◌then◌else◌, unwrap_or, is_some, filter, filter_map, cond}
use Rattle.std.specs.List.{AllByRecursion}
use Rattle.std.specs.Ordering.{nat_cmp}
use Rattle.std.proofs.Math.Seq.{take-length}
use Rattle.std.proofs.lemmas.Bool.{eqb-true}
use Rattle.std.proofs.lemmas.Nat.{or_lt, and_le_l}
use Rattle.acct_base.specs.declared.register.Key.{Key}
use Rattle.acct_base.specs.declared.register.Key.TheVariants.{Cookie, Set, Owner, Enabled}
use Rattle.acct_base.specs.declared.register.Write.{Write}
use Rattle.acct_base.specs.declared.sizes.RegSizes.{RegSizes}
use Rattle.acct_base.specs.Entries.{word_uid, word_iface, tag_word, owner_word}
use Rattle.acct_base.specs.Journal.{same_key, last_from, last_write, value_of_write, current}
use Rattle.acct_base.specs.Landings.{same_number}
use Rattle.acct_base.specs.Registers.{IsWritable, IsValueOf, IsWellFormed, cookie_of, keys_written}
use Rattle.acct_base.proofs.JournalLemmas.{current_all}
use Rattle.acct_base.proofs.Keys.{nat_agree, ascending_all}
use Rattle.desk_core.specs.declared.command.Bit.{Bit}
use Rattle.desk_core.specs.declared.command.Bit.TheVariants as bit
use Rattle.desk_core.specs.declared.command.Command.{Command}
use Rattle.desk_core.specs.declared.command.Command.TheVariants as command
use Rattle.desk_core.specs.declared.command.Reply.{Reply}
use Rattle.desk_core.specs.declared.command.Reply.TheVariants.{Perm, NoEntry, Invalid}
use Rattle.desk_core.specs.Commands.{clear, clear_set, effect, writes, reply, is_done, has_entry, take_bit, put_bit, entry_with, entry_without, entry_matches, puts_bit, cookies_tagged, unlisted, bit_value, chain_bit, old_enabled, with_bit, without_bit, iface_in, rule_in}
use Rattle.acct_base.specs.Rules.{iface_bit}
use Rattle.desk_core.specs.Book.{BookView, IsDecisionOf}
use Rattle.desk_core.specs.declared.command.Decision.{Decision}
use Rattle.desk_core.specs.Ranges.{IsInRange}
use Rattle.desk_core.specs.Registers.{seen_now, unseen}
use Rattle.desk_core.proofs.RoomLemmas.{all_append, all_alike}

all_filter : {X : Type 0} (P : X → Type 0) (p : X → Bool) (xs : List X) → AllByRecursion P xs → AllByRecursion P (filter p xs)
all_filter P p [] h = tt
all_filter P p (x ∷ xs) h = elim (p x) as (λ b. AllByRecursion P (cond b (x ∷ filter p xs) (filter p xs))) [ true ↦ (h.0, all_filter P p xs h.1) | false ↦ all_filter P p xs h.1 ]

-- ---- what is in the journal

pub current_formed : (key : Key) (journal : List Write) → AllByRecursion IsWellFormed journal → IfSome (current journal key) (IsValueOf key)
current_formed key journal a = current_all IsValueOf key journal (all_alike IsWellFormed (λ (w : Write). IfSome w.value (IsValueOf w.key)) (λ w h. h.value) journal a)

-- no write is to Cookie(0)
other_key : (k : Key) → IsWritable k → same_key (Cookie 0) k ≡ false
other_key (Cookie c) h = pick (0 == c) refl
  where
    pick : (b : Bool) → (0 == c) ≡ b → (0 == c) ≡ false
    pick true e = absurd (h (sym (eqb-true 0 c e)))
    pick false e = e
other_key (Set uid) h = refl
other_key (Owner uid) h = refl
other_key Enabled h = refl

none_from : (found n : ℕ) (ws : List Write) → AllByRecursion IsWellFormed ws → last_from found n (Cookie 0) ws ≡ found
none_from found n [] a = refl
none_from found n (w ∷ ws) a = none_from (if same_key (Cookie 0) w.key then n else found) (suc n) ws a.1
    ∙ ap (λ (b : Bool). if b then n else found) (other_key w.key a.0.key)

pub unnamed : (journal : List Write) → AllByRecursion IsWellFormed journal → last_write journal (length journal) (Cookie 0) ≡ 0
unnamed journal a = ap (last_from 0 1 (Cookie 0)) (take-length journal) ∙ none_from 0 1 journal a

absent : (journal : List Write) → AllByRecursion IsWellFormed journal → current journal (Cookie 0) ≡ None
absent journal a = ap (value_of_write journal) (unnamed journal a)

pub seen_unnamed : (journal : List Write) → AllByRecursion IsWellFormed journal → seen_now journal (Cookie 0) ≡ unseen
seen_unnamed journal a = λ i. record { version = unnamed journal a i; value = absent journal a i }

cookies_named : (ws : List Write) → AllByRecursion IsWellFormed ws → AllByRecursion (λ (c : ℕ). c ≢ 0) (filter_map cookie_of ws)
cookies_named [] a = tt
cookies_named (w ∷ ws) a = pick w.key w.value a.0.key (cookies_named ws a.1)
  where
    pick : (k : Key) (v : Option ℕ) → IsWritable k → AllByRecursion (λ (c : ℕ). c ≢ 0) (filter_map cookie_of ws)
        → AllByRecursion (λ (c : ℕ). c ≢ 0) (filter_map cookie_of (record { key = k; value = v } ∷ ws))
    pick (Cookie c) v h rest = (h, rest)
    pick (Set uid) v h rest = rest
    pick (Owner uid) v h rest = rest
    pick Enabled v h rest = rest

-- ---- what commands write

cleared : (cs : List ℕ) → AllByRecursion (λ (c : ℕ). c ≢ 0) cs → AllByRecursion IsWellFormed (map (λ c. clear (Cookie c)) cs)
cleared [] h = tt
cleared (c ∷ cs) h = (record { key = h.0; value = tt }, cleared cs h.1)

iface_in-small : (o : Option ℕ) (uid : ℕ) → IfSome o (IsValueOf (Owner uid)) → iface_in o ≤ 16777215
iface_in-small None uid h = omega arith
iface_in-small (Some v) uid h = h

pub rule_in-small : (o : Option ℕ) → rule_in o < 2 ^ 32
rule_in-small None = omega arith
rule_in-small (Some v) = omega arith

pub iface_back : (i r : ℕ) → r < 2 ^ 32 → word_iface (owner_word i r) ≡ i
iface_back i r h = omega (arith, h)

with_formed : (uid b iface : ℕ) (o : Option ℕ) → b < 2 ^ 32 → iface ≤ 16777215 → IfSome o (IsValueOf (Owner uid)) → IfSome (entry_with b iface o) (IsValueOf (Owner uid))
with_formed uid b iface o small range old =
    let i = if iface == 0 then iface_in o else iface in
    let r = with_bit (rule_in o) b in
    subst (λ (n : ℕ). n ≤ 16777215) (sym (iface_back i r (or_lt 32 (rule_in o) b (rule_in-small o) small)))
    (elim (iface == 0) as (λ (t : Bool). (if t then iface_in o else iface) ≤ 16777215) [ true ↦ iface_in-small o uid old | false ↦ range ])

without_formed : (uid b : ℕ) (o : Option ℕ) → IfSome o (IsValueOf (Owner uid)) → IfSome (entry_without b o) (IsValueOf (Owner uid))
without_formed uid b o old =
    let r = without_bit (rule_in o) b in
    let less : r < 2 ^ 32 = omega (arith, rule_in-small o, and_le_l (rule_in o) (4294967295 - b)) in
    let i = if b == iface_bit then 0 else iface_in o in
    let fits : word_iface (owner_word i r) ≤ 16777215 = subst (λ (n : ℕ). n ≤ 16777215) (sym (iface_back i r less))
    (elim (b == iface_bit) as (λ (t : Bool). (if t then 0 else iface_in o) ≤ 16777215) [ true ↦ omega arith | false ↦ iface_in-small o uid old ]) in
    elim (r == 0) as (λ (t : Bool). IfSome (if t then None else Some (owner_word i r)) (IsValueOf (Owner uid))) [ true ↦ tt | false ↦ fits ]

pub bit_small : (b : Bit) → bit_value b < 2 ^ 32
bit_small bit.Happy = omega arith
bit_small bit.Penalty = omega arith
bit_small bit.Dozable = omega arith
bit_small bit.Standby = omega arith
bit_small bit.PowerSave = omega arith
bit_small bit.Iface = omega arith

pub word_back : (uid tag : ℕ) → tag < 2 ^ 32 → word_uid (tag_word uid tag) ≡ uid
word_back uid tag h = omega (arith, h)

pub enabled_in : (o : Option ℕ) → IfSome o (λ v. v < 2 ^ 32) → unwrap_or o 0 < 2 ^ 32
enabled_in None h = omega arith
enabled_in (Some v) h = h

-- a command that is done names a cookie that is not 0
module _ (journal : List Write) (formed : AllByRecursion IsWellFormed journal) where
  put_formed : (b iface uid : ℕ) → b < 2 ^ 32 → iface ≤ 16777215 → IsWellFormed (put_bit journal b iface uid)
  put_formed b iface uid small range = record { key = tt; value = with_formed uid b iface (current journal (Owner uid)) small range (current_formed (Owner uid) journal formed) }

  take_formed : (b uid : ℕ) → IsWellFormed (take_bit journal b uid)
  take_formed b uid = record { key = tt; value = without_formed uid b (current journal (Owner uid)) (current_formed (Owner uid) journal formed) }

  all_taken : (b : ℕ) (uids : List ℕ) → AllByRecursion IsWellFormed (map (take_bit journal b) uids)
  all_taken b [] = tt
  all_taken b (uid ∷ uids) = (take_formed b uid, all_taken b uids)

  all_put : (b : ℕ) (uids : List ℕ) → b < 2 ^ 32 → AllByRecursion IsWellFormed (map (put_bit journal b 0) uids)
  all_put b [] small = tt
  all_put b (uid ∷ uids) small = (put_formed b 0 uid small (omega arith), all_put b uids small)

  set_cleared : (uid : ℕ) → AllByRecursion IsWellFormed (clear_set journal uid)
  set_cleared uid = elim (has_entry journal (Set uid)) as (λ b. AllByRecursion IsWellFormed (if b then clear (Set uid) ∷ [] else [])) [ true ↦ (record { key = tt; value = tt }, tt) | false ↦ tt ]

  tagged_named : (uid tag : ℕ) → AllByRecursion (λ (c : ℕ). c ≢ 0) (cookies_tagged journal uid tag)
  tagged_named uid tag = all_filter (λ (c : ℕ). c ≢ 0) (λ c. entry_matches uid tag (current journal (Cookie c))) (keys_written cookie_of journal)
      (ascending_all nat_cmp same_number nat_agree (λ (c : ℕ). c ≢ 0) (filter_map cookie_of journal) (cookies_named journal formed))

  module _ (privileged : List ℕ) (sizes : RegSizes) where
    refused : (b d : Bool) (r : Reply) → d ≡ true → is_done (unwrap_or (if b then Some Perm else if d then Some Invalid else None) r) ≡ true → ⊥
    refused true d r e h = true≢false (sym h)
    refused false true r e h = true≢false (sym h)
    refused false false r e h = true≢false (sym e)

    tag_named : (caller cookie uid tag : ℕ) → is_done (reply journal privileged sizes (command.Tag caller cookie uid tag)) ≡ true → cookie ≢ 0
    tag_named caller cookie uid tag done zero = refused _ (cookie == 0) _ (ap (λ (c : ℕ). c == 0) zero) done

    untag_named : (cookie : ℕ) → is_done (reply journal privileged sizes (command.Untag cookie)) ≡ true → cookie ≢ 0
    untag_named cookie done zero =
        let none : has_entry journal (Cookie cookie) ≡ false = ap (λ (c : ℕ). is_some (current journal (Cookie c))) zero ∙ ap is_some (absent journal formed) in
        pick _ (has_entry journal (Cookie cookie)) none done
      where
        pick : (r : Reply) (b : Bool) → b ≡ false → is_done (unwrap_or (if b then None else Some NoEntry) r) ≡ true → ⊥
        pick r true e h = true≢false e
        pick r false e h = true≢false (sym h)

    effect_formed : (c : Command) → IsInRange c → is_done (reply journal privileged sizes c) ≡ true → AllByRecursion IsWellFormed (effect journal c)
    effect_formed (command.Tag caller cookie uid tag) h done = (
      record { key = tag_named caller cookie uid tag done; value = subst (λ (n : ℕ). n < 4294967295) (sym (word_back uid tag h.2)) h.1 },
      tt,
    )
    effect_formed (command.Untag cookie) h done = (record { key = untag_named cookie done; value = tt }, tt)
    effect_formed (command.Set caller uid set) h done =
        elim (set == 0) as (λ b. AllByRecursion IsWellFormed (if b then clear_set journal uid else record { key = Set uid; value = Some 1 } ∷ [])) [ true ↦ set_cleared uid | false ↦ (record { key = tt; value = refl }, tt) ]
    effect_formed (command.Delete caller uid tag) h done =
        all_append IsWellFormed (map (λ c. clear (Cookie c)) (cookies_tagged journal uid tag)) (if tag == 0 then clear_set journal uid else [])
        (cleared (cookies_tagged journal uid tag) (tagged_named uid tag))
        (elim (tag == 0) as (λ b. AllByRecursion IsWellFormed (if b then clear_set journal uid else [])) [ true ↦ set_cleared uid | false ↦ tt ])
    effect_formed (command.Add uid b iface) h done = (put_formed (bit_value b) iface uid (bit_small b) h.1, tt)
    effect_formed (command.Remove uid b) h done = (take_formed (bit_value b) uid, tt)
    effect_formed (command.Toggle c on) h done =
        let old = enabled_in (current journal Enabled) (current_formed Enabled journal formed) in (
          record {
            key = tt;
            value = elim on as (λ b. (if b then with_bit (old_enabled journal) (bit_value (chain_bit c)) else without_bit (old_enabled journal) (bit_value (chain_bit c))) < 2 ^ 32) [
              | true ↦ or_lt 32 (old_enabled journal) (bit_value (chain_bit c)) old (bit_small (chain_bit c))
              | false ↦ omega (arith, old, and_le_l (old_enabled journal) (4294967295 - bit_value (chain_bit c)))
            ];
          },
          tt,
        )
    effect_formed (command.Firewall c uid allowed) h done =
        elim (puts_bit c allowed) as (λ b. AllByRecursion IsWellFormed ((if b then put_bit journal (bit_value (chain_bit c)) 0 uid else take_bit journal (bit_value (chain_bit c)) uid) ∷ [])) [
          | true ↦ (put_formed (bit_value (chain_bit c)) 0 uid (bit_small (chain_bit c)) (omega arith), tt)
          | false ↦ (take_formed (bit_value (chain_bit c)) uid, tt)
        ]
    effect_formed (command.Replace c uids) h done =
        all_append IsWellFormed (map (take_bit journal (bit_value (chain_bit c))) (unlisted journal (bit_value (chain_bit c)) uids)) (map (put_bit journal (bit_value (chain_bit c)) 0) uids)
        (all_taken (bit_value (chain_bit c)) (unlisted journal (bit_value (chain_bit c)) uids)) (all_put (bit_value (chain_bit c)) uids (bit_small (chain_bit c)))
    effect_formed command.Collect h done = tt

    pub writes_formed : (c : Command) → IsInRange c → AllByRecursion IsWellFormed (writes journal privileged sizes c)
    writes_formed c h = pick (is_done (reply journal privileged sizes c)) refl
      where
        pick : (b : Bool) → is_done (reply journal privileged sizes c) ≡ b → AllByRecursion IsWellFormed (if b then effect journal c else [])
        pick true e = effect_formed c h e
        pick false e = tt

-- the same of the parts of a book, and of the writes as a slice
pub formed-taken : (journal : List Write) (privileged : List ℕ) (limits : RegSizes) (book : BookView) (decision : Decision) (ws : List Write)
    → ◌≡◌ {A = BookView} (record { journal = journal; privileged = privileged; limits = limits }) book → ws ≡ decision.writes
    → IsDecisionOf book decision → AllByRecursion IsWellFormed journal → AllByRecursion IsWellFormed (journal ++ ws)
formed-taken journal privileged limits book decision ws view same d formed =
    all_append IsWellFormed journal ws formed
    (subst (AllByRecursion IsWellFormed) (sym (same ∙ d.writes))
    (subst (λ (b : BookView). AllByRecursion IsWellFormed (writes b.journal b.privileged b.limits d.command)) view
    (writes_formed journal formed privileged limits d.command d.range)))

-- The value of a key after some writes, and after each command of the laws.
use Rattle.std.proofs.Common.{◌≡◌, ℕ, suc, ◌+◌, ◌≤◌, Bool, true, false, not, ◌&&◌, ◌||◌, List, [], ◌∷◌, ◌++◌, length, map, take, drop, refl, sym, ap, subst, ◌∙◌, arith, append-nil, append_assoc}
use Rattle.std.specs.Prelude.{◌==◌, if◌then◌else◌, filter, filter_map, fold, Option, None, Some, is_some}
use Rattle.std.specs.Ordering.{nat_cmp}
use Rattle.std.proofs.lemmas.Bool.{true≢false, eqb-true}
use Rattle.std.proofs.lemmas.List.{length-append, take-append-drop}
use Rattle.std.proofs.lemmas.List.Sums.{fold-append}
use Rattle.acct_base.specs.declared.register.Key.{Key}
use Rattle.acct_base.specs.declared.register.Key.TheVariants as key
use Rattle.acct_base.specs.declared.register.Write.{Write}
use Rattle.acct_base.specs.declared.register.Seen.{Seen}
use Rattle.acct_base.specs.declared.sizes.RegSizes.{RegSizes}
use Rattle.acct_base.specs.Journal.{same_key, current}
use Rattle.acct_base.specs.Ordered.{insert_once}
use Rattle.acct_base.proofs.JournalLemmas.{same_key-self}
use Rattle.acct_base.specs.Registers.{cookie_of, set_uid_of, owner_uid_of, keys_written, KeepsLimits}
use Rattle.acct_base.specs.Landings.{same_number}
use Rattle.acct_base.proofs.Keys.{nat_agree, ascending_sorted, inserted_sorted}
use Rattle.desk_core.specs.declared.command.Command.{Command}
use Rattle.desk_core.specs.declared.command.Reply.{Reply}
use Rattle.desk_core.specs.declared.command.Reply.TheVariants.{Done}
use Rattle.desk_core.specs.Commands.{is_done, effect, reply, after_command, is_listed, clear, clear_set, has_entry, entry_matches, entry_has, entry_with, entry_without, cookies_tagged, unlisted, take_bit, put_bit, deletion, replacement}
use Rattle.desk_core.specs.Laws.{deletes}
use Rattle.desk_core.specs.Registers.{seen_now}
use Rattle.desk_core.proofs.KeyLists.{Ascends, length-insert_once}
use Rattle.desk_core.proofs.LatestLemmas.{IsMap, cookies_map, sets_map, owners_map, listed-keys_written, keys_written-append, seen_now-push, eqb-swap}
use Rattle.desk_core.proofs.LimitLemmas.{seen-valued, tagged-valued, has-valued}
use Rattle.desk_core.proofs.WalkLemmas.{listed-filter}

-- ---- some writes

abbrev pub set_by : Key → Option ℕ → Write → Option ℕ
set_by k v w = if same_key k w.key then w.value else v

current-push : (journal : List Write) (w : Write) (k : Key) → current (journal ++ w ∷ []) k ≡ set_by k (current journal k) w
current-push journal w k = ap (λ (s : Seen). s.value) (seen_now-push journal w k) ∙ by (same_key k w.key)
  where
    by : (b : Bool) → (let s : Seen = (if b then record { version = suc (length journal); value = w.value } else seen_now journal k) in s.value) ≡ (if b then w.value else current journal k)
    by true = refl
    by false = refl

-- one write
pub written_own : (journal : List Write) (w : Write) → current (journal ++ w ∷ []) w.key ≡ w.value
written_own journal w = current-push journal w w.key ∙ ap (λ b. if b then w.value else current journal w.key) (same_key-self w.key)

pub written_other : (journal : List Write) (w : Write) (k : Key) → same_key k w.key ≡ false → current (journal ++ w ∷ []) k ≡ current journal k
written_other journal w k other = current-push journal w k ∙ ap (λ b. if b then w.value else current journal k) other

-- any writes
pub current-append : (journal ws : List Write) (k : Key) → current (journal ++ ws) k ≡ fold (set_by k) (current journal k) ws
current-append journal [] k = ap (λ (j : List Write). current j k) (append-nil journal)
current-append journal (w ∷ ws) k =
    ap (λ (j : List Write). current j k) (sym (append_assoc journal (w ∷ []) ws))
    ∙ current-append (journal ++ w ∷ []) ws k
    ∙ ap (λ (v : Option ℕ). fold (set_by k) v ws) (current-push journal w k)

-- writes that are made of numbers leave other keys, and give a number's key what is made of that number
module _ (f : ℕ → Write) (k : Key) where
  pub made-other : ((x : ℕ) → same_key k (f x).key ≡ false) → (v : Option ℕ) (ks : List ℕ) → fold (set_by k) v (map f ks) ≡ v
  made-other h v [] = refl
  made-other h v (x ∷ ks) = ap (λ b. fold (set_by k) (if b then (f x).value else v) (map f ks)) (h x) ∙ made-other h v ks

  pub made-own : (u : ℕ) → ((x : ℕ) → same_key k (f x).key ≡ (u == x)) → (v : Option ℕ) (ks : List ℕ)
      → fold (set_by k) v (map f ks) ≡ (if is_listed ks u then (f u).value else v)
  made-own u h v [] = refl
  made-own u h v (x ∷ ks) =
      made-own u h (set_by k v (f x)) ks
      ∙ (λ i. if is_listed ks u then (f u).value else if (h x ∙ eqb-swap u x) i then (f x).value else v)
      ∙ by (x == u) (is_listed ks u) refl
    where
      by : (here later : Bool) → (x == u) ≡ here → (if later then (f u).value else if here then (f x).value else v) ≡ (if here || later then (f u).value else v)
      by true true e = refl
      by true false e = ap (λ y. (f y).value) (eqb-true x u e)
      by false true e = refl
      by false false e = refl

-- ---- a filter of the keys of a map

module _ (mk : ℕ → Key) (which : Write → Option ℕ) (m : IsMap mk which) (journal : List Write) (test : ℕ → Bool)
    (valued : (q : ℕ) → test q ≡ true → is_some (current journal (mk q)) ≡ true) where
  -- a key that passes has a value, so it was written
  pub listed-passing : (q : ℕ) → is_listed (filter test (keys_written which journal)) q ≡ test q
  listed-passing q = listed-filter test (keys_written which journal) q ∙ by (test q) refl
    where
      by : (b : Bool) → test q ≡ b → (b && is_listed (keys_written which journal) q) ≡ b
      by true e = listed-keys_written mk which m journal q ∙ ap not (seen-valued journal (mk q) (valued q e))
      by false e = refl

-- ---- the commands

-- a command that is done writes what it would
pub after-done : (journal : List Write) (privileged : List ℕ) (limits : RegSizes) (command : Command) → reply journal privileged limits command ≡ Done
    → after_command privileged limits journal command ≡ journal ++ effect journal command
after-done journal privileged limits command done = ap (λ (r : Reply). journal ++ (if is_done r then effect journal command else [])) done

-- what holds of the journal, and of it with what the command would write, holds afterwards
pub after-either : (P : List Write → Type 0) (journal : List Write) (privileged : List ℕ) (limits : RegSizes) (command : Command)
    → P journal → P (journal ++ effect journal command) → P (after_command privileged limits journal command)
after-either P journal privileged limits command p q = by (is_done (reply journal privileged limits command))
  where
    by : (b : Bool) → P (journal ++ (if b then effect journal command else []))
    by true = q
    by false = subst P (sym (append-nil journal)) p

module _ (journal : List Write) where
  -- a uid's entry after a new list
  pub replaced : (b : ℕ) (uids : List ℕ) (uid : ℕ) → current (journal ++ replacement journal b uids) (key.Owner uid)
      ≡ (if is_listed uids uid then entry_with b 0 (current journal (key.Owner uid))
      else if entry_has b (current journal (key.Owner uid)) then entry_without b (current journal (key.Owner uid))
      else current journal (key.Owner uid))
  replaced b uids uid =
      current-append journal (replacement journal b uids) (key.Owner uid)
      ∙ fold-append (set_by (key.Owner uid)) (current journal (key.Owner uid)) (map (take_bit journal b) (unlisted journal b uids)) (map (put_bit journal b 0) uids)
      ∙ made-own (put_bit journal b 0) (key.Owner uid) uid (λ x. refl) _ uids
      ∙ (λ i. if is_listed uids uid then entry_with b 0 old else made-own (take_bit journal b) (key.Owner uid) uid (λ x. refl) old (unlisted journal b uids) i)
      ∙ (λ i. if is_listed uids uid then entry_with b 0 old else if listed-passing key.Owner owner_uid_of owners_map journal test passing uid i then entry_without b old else old)
      ∙ by (is_listed uids uid)
    where
      old : Option ℕ
      old = current journal (key.Owner uid)

      test : ℕ → Bool
      test u = entry_has b (current journal (key.Owner u)) && not (is_listed uids u)

      passing : (u : ℕ) → test u ≡ true → is_some (current journal (key.Owner u)) ≡ true
      passing u e = has-valued b (not (is_listed uids u)) (current journal (key.Owner u)) e

      none : (a : Bool) → (a && true) ≡ a
      none true = refl
      none false = refl

      by : (l : Bool) → (if l then entry_with b 0 old else if entry_has b old && not l then entry_without b old else old)
          ≡ (if l then entry_with b 0 old else if entry_has b old then entry_without b old else old)
      by true = refl
      by false = ap (λ c. if c then entry_without b old else old) (none (entry_has b old))

  -- a new list is of uids alone
  pub replaced-other : (b : ℕ) (uids : List ℕ) (k : Key) → ((uid : ℕ) → same_key k (key.Owner uid) ≡ false)
      → current (journal ++ replacement journal b uids) k ≡ current journal k
  replaced-other b uids k h =
      current-append journal (replacement journal b uids) k
      ∙ fold-append (set_by k) (current journal k) (map (take_bit journal b) (unlisted journal b uids)) (map (put_bit journal b 0) uids)
      ∙ made-other (put_bit journal b 0) k h _ uids
      ∙ made-other (take_bit journal b) k h (current journal k) (unlisted journal b uids)

  -- each value after a deletion
  module _ (uid tag : ℕ) where
    abbrev taken_set : List Write
    taken_set = if tag == 0 then clear_set journal uid else []

    -- the counter set's write leaves other keys
    beside_set : (k : Key) (v : Option ℕ) → same_key k (key.Set uid) ≡ false → fold (set_by k) v taken_set ≡ v
    beside_set k v h = by (tag == 0) (has_entry journal (key.Set uid))
      where
        by : (a b : Bool) → fold (set_by k) v (if a then (if b then clear (key.Set uid) ∷ [] else []) else []) ≡ v
        by true true = ap (λ c. if c then None else v) h
        by true false = refl
        by false b = refl

    parted : (k : Key) → current (journal ++ deletion journal uid tag) k
        ≡ fold (set_by k) (fold (set_by k) (current journal k) (map (λ c. clear (key.Cookie c)) (cookies_tagged journal uid tag))) taken_set
    parted k =
        current-append journal (deletion journal uid tag) k
        ∙ fold-append (set_by k) (current journal k) (map (λ c. clear (key.Cookie c)) (cookies_tagged journal uid tag)) taken_set

    no_cookie : (k : Key) → ((c : ℕ) → same_key k (key.Cookie c) ≡ false) → current (journal ++ deletion journal uid tag) k ≡ fold (set_by k) (current journal k) taken_set
    no_cookie k h = parted k ∙ ap (λ (v : Option ℕ). fold (set_by k) v taken_set) (made-other (λ c. clear (key.Cookie c)) k h (current journal k) (cookies_tagged journal uid tag))

    passing : (c : ℕ) → entry_matches uid tag (current journal (key.Cookie c)) ≡ true → is_some (current journal (key.Cookie c)) ≡ true
    passing c e = tagged-valued uid tag (current journal (key.Cookie c)) e

    -- the counter set's entry, where there is one
    of_set : (u : ℕ) → fold (set_by (key.Set u)) (current journal (key.Set u)) taken_set ≡ (if tag == 0 && u == uid then None else current journal (key.Set u))
    of_set u = by (tag == 0) (has_entry journal (key.Set uid)) (u == uid) refl refl
      where
        nothing : (o : Option ℕ) → is_some o ≡ false → o ≡ None
        nothing None e = refl
        nothing (Some v) e = absurd (true≢false e)

        by : (a b c : Bool) → has_entry journal (key.Set uid) ≡ b → (u == uid) ≡ c
            → fold (set_by (key.Set u)) (current journal (key.Set u)) (if a then (if b then clear (key.Set uid) ∷ [] else []) else []) ≡ (if a && c then None else current journal (key.Set u))
        by true true c e h = ap (λ d. if d then None else current journal (key.Set u)) h
        by true false true e h = ap (λ n. current journal (key.Set n)) (eqb-true u uid h) ∙ nothing _ e
        by true false false e h = refl
        by false b c e h = refl

    pub deleted : (k : Key) → current (journal ++ deletion journal uid tag) k ≡ (if deletes uid tag k (current journal k) then None else current journal k)
    deleted (key.Cookie c) =
        parted (key.Cookie c)
        ∙ beside_set (key.Cookie c) _ refl
        ∙ made-own (λ x. clear (key.Cookie x)) (key.Cookie c) c (λ x. refl) (current journal (key.Cookie c)) (cookies_tagged journal uid tag)
        ∙ ap (λ b. if b then None else current journal (key.Cookie c))
        (listed-passing key.Cookie cookie_of cookies_map journal (λ x. entry_matches uid tag (current journal (key.Cookie x))) passing c)
    deleted (key.Set u) = no_cookie (key.Set u) (λ c. refl) ∙ of_set u
    deleted (key.Owner u) = no_cookie (key.Owner u) (λ c. refl) ∙ beside_set (key.Owner u) _ refl
    deleted key.Enabled = no_cookie key.Enabled (λ c. refl) ∙ beside_set key.Enabled _ refl

-- ---- a first part of some writes

module _ (mk : ℕ → Key) (which : Write → Option ℕ) (m : IsMap mk which) where
  grows : (xs ys : List ℕ) → Ascends xs → length xs ≤ length (fold (insert_once nat_cmp) xs ys)
  grows xs [] s = omega arith
  grows xs (y ∷ ys) s = by (is_listed xs y) (length-insert_once xs y s) (grows (insert_once nat_cmp xs y) ys (inserted_sorted nat_cmp same_number nat_agree xs y s))
    where
      by : (b : Bool) → length (insert_once nat_cmp xs y) ≡ (if b then length xs else length xs + 1)
          → length (insert_once nat_cmp xs y) ≤ length (fold (insert_once nat_cmp) (insert_once nat_cmp xs y) ys)
          → length xs ≤ length (fold (insert_once nat_cmp) (insert_once nat_cmp xs y) ys)
      by true e h = omega (arith, e, h)
      by false e h = omega (arith, e, h)

  -- fewer writes have no more keys
  pub fewer_keys : (xs ys : List Write) → length (keys_written which xs) ≤ length (keys_written which (xs ++ ys))
  fewer_keys xs ys =
      subst (λ (ks : List ℕ). length (keys_written which xs) ≤ length ks) (sym (keys_written-append mk which m xs ys))
      (grows (keys_written which xs) (filter_map which ys) (ascending_sorted nat_cmp same_number nat_agree (filter_map which xs)))

-- a first part of a journal that passes no limit passes none
pub within-front : (limits : RegSizes) (xs ys : List Write) → KeepsLimits limits (xs ++ ys) → KeepsLimits limits xs
within-front limits xs ys within = record {
  writes = omega (arith, within.writes, length-append xs ys);
  cookies = omega (arith, within.cookies, fewer_keys key.Cookie cookie_of cookies_map xs ys);
  sets = omega (arith, within.sets, fewer_keys key.Set set_uid_of sets_map xs ys);
  owners = omega (arith, within.owners, fewer_keys key.Owner owner_uid_of owners_map xs ys);
}

pub within-taken_front : (limits : RegSizes) (journal ws : List Write) (n : ℕ) → KeepsLimits limits (journal ++ ws) → KeepsLimits limits (journal ++ take n ws)
within-taken_front limits journal ws n within =
    within-front limits (journal ++ take n ws) (drop n ws)
    (subst (KeepsLimits limits) (ap (λ (l : List Write). journal ++ l) (sym (take-append-drop n ws)) ∙ sym (append_assoc journal (take n ws) (drop n ws))) within)

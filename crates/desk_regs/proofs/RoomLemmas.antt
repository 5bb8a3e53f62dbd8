-- Registers whose journal keeps their limits with a write more do not refuse that write.
use Rattle.std.proofs.Common.{◌≡◌, ◌≢◌, ℕ, ◌+◌, ◌≤◌, ◌<◌, List, [], ◌∷◌, ◌++◌, length, ◌∙◌, ap, sym, arith, take, get_or}
use Rattle.std.specs.Prelude.{Option, None, Some, ◌==◌, if◌then◌else◌, Bool, true, Result, Err}
use Rattle.acct_base.specs.declared.register.Key.{Key}
use Rattle.acct_base.specs.declared.register.Key.TheVariants.{Cookie, Set, Owner, Enabled}
use Rattle.acct_base.specs.declared.register.Write.{Write}
use Rattle.acct_base.specs.declared.sizes.RegSizes.{RegSizes}
use Rattle.acct_base.specs.Journal.{last_write}
use Rattle.acct_base.specs.Registers.{IsWritable, KeepsLimits, cookie_of, set_uid_of, owner_uid_of}
use Rattle.reg_words.specs.Registers.{AreKeysSpent}
use Rattle.reg_words.specs.declared.writes.WriteError.{WriteError}
use Rattle.reg_words.specs.declared.writes.WriteError.TheVariants.{KeysSpent, JournalFull}
use Rattle.std.proofs.lemmas.List.{length-append, take_more, append_assoc}
use Rattle.reg_words.specs.Seats.{WriterState}
use Rattle.std.specs.List.{AllByRecursion}
use Rattle.desk_core.proofs.LatestLemmas.{length-keys_written-push, cookies_map, sets_map, owners_map}

-- a key that can be written is not Cookie(0)
pub writable : (key : Key) → IsWritable key → key ≢ Cookie 0
writable (Cookie c) h e = h cc
writable (Set u) h e = cc
writable (Owner u) h e = cc
writable Enabled h e = cc

some_is : (a b : ℕ) → ◌≡◌ {A = Option ℕ} (Some a) (Some b) → a ≡ b
some_is a b e = cc

-- a first write of a key makes one key more of its map
more : (n : ℕ) (limit count : ℕ) (v : ℕ) → v ≡ 0 → n ≡ (if v == 0 then count + 1 else count) → n ≤ limit → ◌≡◌ {A = Option ℕ} (Some limit) (Some count) → ⊥
more n limit count v never grown room full =
    let here : v == 0 ≡ true = ap (λ (x : ℕ). x == 0) never in
    let grown' : n ≡ count + 1 = grown ∙ ap (λ (b : Bool). if b then count + 1 else count) here in
    let same : limit ≡ count = some_is limit count full in
    omega arith

-- the keys of a write's map are not spent
pub unspent : (limits : RegSizes) (journal : List Write) (w : Write) → KeepsLimits limits (journal ++ w ∷ []) → AreKeysSpent limits journal w.key → ⊥
unspent limits journal w room spent = by w.key w.value room spent
  where
    by : (k : Key) (v : Option ℕ) → KeepsLimits limits (journal ++ record { key = k; value = v } ∷ []) → AreKeysSpent limits journal k → ⊥
    by (Cookie c) v r s = more _ _ _ (last_write journal (length journal) (Cookie c)) s.never
        (length-keys_written-push Cookie cookie_of cookies_map journal (record { key = Cookie c; value = v })) r.cookies s.full
    by (Set u) v r s = more _ _ _ (last_write journal (length journal) (Set u)) s.never
        (length-keys_written-push Set set_uid_of sets_map journal (record { key = Set u; value = v })) r.sets s.full
    by (Owner u) v r s = more _ _ _ (last_write journal (length journal) (Owner u)) s.never
        (length-keys_written-push Owner owner_uid_of owners_map journal (record { key = Owner u; value = v })) r.owners s.full
    by Enabled v r s = let e = s.full in cc

-- nor is the journal full
pub not_full : (limits : RegSizes) (journal : List Write) (w : Write) → KeepsLimits limits (journal ++ w ∷ []) → length journal ≢ limits.writes
not_full limits journal w room e = absurd (omega (arith, room.writes, e, length-append journal (w ∷ [])))

-- the writes up to one of them, and that one
pub one_more : (journal ws : List Write) (i : ℕ) (d : Write) → i < length ws → journal ++ take (i + 1) ws ≡ (journal ++ take i ws) ++ get_or ws i d ∷ []
one_more journal ws i d here = ap (λ (l : List Write). journal ++ l) (take_more ws i d here) ∙ sym (append_assoc journal (take i ws) (get_or ws i d ∷ []))

-- so a write is not refused
pub not_refused : (limits : RegSizes) (journal : List Write) (w : Write) (result : Result ℕ WriteError) (e : WriteError) → result ≡ Err e
    → KeepsLimits limits (journal ++ w ∷ [])
    → (result ≡ Err KeysSpent → AreKeysSpent limits journal w.key)
    → (result ≡ Err JournalFull → length journal ≡ limits.writes)
    → ⊥
not_refused limits journal w result KeysSpent is room spent full = unspent limits journal w room (spent is)
not_refused limits journal w result JournalFull is room spent full = not_full limits journal w room (full is)

-- a writer that wrote the writes up to one of them, and then that one
pub wrote_more : (before mid after : WriterState) (ws : List Write) (i : ℕ) (d : Write) → i < length ws
    → mid ≡ record before { journal = before.journal ++ take i ws } → after ≡ record mid { journal = mid.journal ++ get_or ws i d ∷ [] }
    → after ≡ record before { journal = before.journal ++ take (i + 1) ws }
wrote_more before mid after ws i d here first last =
    last
    ∙ ap (λ (w : WriterState). record w { journal = w.journal ++ get_or ws i d ∷ [] }) first
    ∙ ap (λ (journal : List Write). record before { journal = journal }) (sym (one_more before.journal ws i d here))

-- the writes behind a journal have the form that all have
pub all_behind : {X : Type 0} (P : X → Type 0) (xs ys : List X) → AllByRecursion P (xs ++ ys) → AllByRecursion P ys
all_behind P [] ys h = h
all_behind P (x ∷ xs) ys h = all_behind P xs ys h.1

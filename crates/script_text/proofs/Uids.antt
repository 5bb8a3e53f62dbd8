-- Uids that ascend.
use Rattle.std.proofs.Common.{◌≡◌, ℕ, ◌+◌, List, [], ◌∷◌, ◌++◌, refl, sym, ap, subst, ◌∙◌, append_assoc, arith}
use Rattle.std.specs.Fmt.{decimal}
use Rattle.std.proofs.lemmas.Fmt.{decimal_injective}
use Rattle.std.proofs.lemmas.List.{map-append}
use Rattle.script_text.specs.Lines.{Field, Number, FieldFits, AllFit, texts, field_text, IsWithin, ascending_uids}

-- the least uid that may come next
abbrev pub next_least : ℕ → List ℕ → ℕ
next_least least [] = least
next_least least (u ∷ us) = next_least (u + 1) us

pub ascending_push : (from : ℕ) (us : List ℕ) (u : ℕ) → ascending_uids from (us ++ u ∷ []) ≡ ascending_uids from us ++ Number (next_least from us) 4294967294 u ∷ []
ascending_push from [] u = refl
ascending_push from (v ∷ us) u = ap (λ (fs : List Field). Number from 4294967294 v ∷ fs) (ascending_push (v + 1) us u)

pub next_push : (from : ℕ) (us : List ℕ) (u : ℕ) → next_least from (us ++ u ∷ []) ≡ u + 1
next_push from [] u = refl
next_push from (v ∷ us) u = next_push (v + 1) us u

pub fit_push : (fs : List Field) (f : Field) → AllFit fs → FieldFits f → AllFit (fs ++ f ∷ [])
fit_push [] f p q = (q, tt)
fit_push (g ∷ fs) f p q = (p.0, fit_push fs f p.1 q)

pub uids_end : (from : ℕ) (us vs : List ℕ) (f : List ℕ) (more : List (List ℕ)) → AllFit (ascending_uids from us) → AllFit (ascending_uids from vs) → ((n : ℕ) → IsWithin (next_least from us) 4294967294 n → f ≡ decimal n → ⊥)
    → texts (ascending_uids from us) ++ f ∷ more ≡ texts (ascending_uids from vs) → ⊥
uids_end from [] [] f more p q none e = absurd cc
uids_end from [] (v ∷ vs) f more p q none e = none v q.0 (cc)
uids_end from (u ∷ us) [] f more p q none e = absurd cc
uids_end from (u ∷ us) (v ∷ vs) f more p q none e =
    let text : decimal u ≡ decimal v = cc in
    let same : u ≡ v = decimal_injective u v (omega (arith, p.0.most_is)) (omega (arith, q.0.most_is)) text in
    let rest : texts (ascending_uids (u + 1) us) ++ f ∷ more ≡ texts (ascending_uids (v + 1) vs) = cc in
    uids_end (u + 1) us vs f more p.1 (subst (λ (w : ℕ). AllFit (ascending_uids (w + 1) vs)) (sym same) q.1) none (rest ∙ ap (λ (w : ℕ). texts (ascending_uids (w + 1) vs)) (sym same))

pub number_fits : (least most n : ℕ) → IsWithin least most n → FieldFits (Number least most n)
number_fits least most n h = h

-- the uids that were read, and one more
pub more_uids : (us new : List ℕ) (u least : ℕ) (old left rest : List (List ℕ)) (f : List ℕ) → AllFit (ascending_uids 0 us) → old ≡ texts (ascending_uids 0 us) ++ left → least ≡ next_least 0 us → left ≡ f ∷ rest → IsWithin least 4294967294 u → f ≡ decimal u → new ≡ us ++ u ∷ []
    → AllFit (ascending_uids 0 new) × (old ≡ texts (ascending_uids 0 new) ++ rest) × (u + 1 ≡ next_least 0 new)
more_uids us new u least old left rest f fits read is left_is within text new_is =
    let fits_more = fit_push (ascending_uids 0 us) (Number (next_least 0 us) 4294967294 u) fits (subst (λ (m : ℕ). IsWithin m 4294967294 u) is within) in
    let form : ascending_uids 0 new ≡ ascending_uids 0 us ++ Number (next_least 0 us) 4294967294 u ∷ [] = ap (ascending_uids 0) new_is ∙ ascending_push 0 us u in
    let front : texts (ascending_uids 0 new) ≡ texts (ascending_uids 0 us) ++ decimal u ∷ [] = ap texts form ∙ map-append field_text (ascending_uids 0 us) (Number (next_least 0 us) 4294967294 u ∷ []) in (
      subst AllFit (sym form) fits_more,
      read ∙ ap (λ (fs : List (List ℕ)). texts (ascending_uids 0 us) ++ fs) (left_is ∙ ap (λ (t : List ℕ). t ∷ rest) text) ∙ sym (append_assoc (texts (ascending_uids 0 us)) (decimal u ∷ []) rest) ∙ ap (λ (fs : List (List ℕ)). fs ++ rest) (sym front),
      sym (ap (next_least 0) new_is ∙ next_push 0 us u),
    )

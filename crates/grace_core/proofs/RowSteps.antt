-- The rows of one phase, where a word or what the views show of them changes.
use Rattle.std.proofs.Common.{◌≡◌, ◌≢◌, ◌⊎◌, ℕ, zero, suc, ◌+◌, ◌*◌, ◌<◌, ◌≤◌, Bool, true, false, List, length, set, sym, refl, ap, ◌∙◌, subst, inl, inr, arith, length-set, get_or-set_same, get_or-set_other}
use mathlib.Core.Logic.{dite}
use native.Mathlib.Decide.{ℕ_discrete, dec_le}
use Rattle.acct_base.specs.declared.label.Label.{Label}
use Rattle.row_probe.specs.Keys.{pack1, pack2}
use Rattle.acct_base.specs.Amounts.{IsValidLabel, same_label}
use Rattle.row_probe.specs.Places.{place, place_of}
use Rattle.grace_core.specs.Sums.{Probe, second_at, adding_at, pending_at, Measure, landed, missed, packets, bytes}
use Rattle.grace_core.specs.Rows.{cell, Has, Decided, Tried, RowsAreGood}
use Rattle.row_probe.proofs.Packing.{pack1-ne-zero, pack2-ne-zero}
use Rattle.grace_core.proofs.Keys.{same_keys, same_true}
use Rattle.row_probe.proofs.Turns.{place-lt, place-injective, place-surjective}

pub yes_or_no : {R : Type 0} (b : Bool) → (b ≡ true → R) → (b ≡ false → R) → R
yes_or_no true f g = f refl
yes_or_no false f g = g refl

abbrev pub put : List ℕ → ℕ → ℕ → ℕ → List ℕ
put ws i c x = set ws (6 * i + c) x

pub cell_here : (rows : ℕ) (ws : List ℕ) (i c x : ℕ) → length ws ≡ 6 * rows → i < rows → c < 6 → cell (put ws i c x) i c ≡ x
cell_here rows ws i c x wide l m = get_or-set_same ws (6 * i + c) x 0 (omega arith)

pub cell_row : (ws : List ℕ) (i c x j d : ℕ) → j ≢ i → c < 6 → d < 6 → cell (put ws i c x) j d ≡ cell ws j d
cell_row ws i c x j d ne l m = get_or-set_other ws (6 * i + c) (6 * j + d) x 0 (λ e. omega arith)

pub cell_column : (ws : List ℕ) (i c x j d : ℕ) → d ≢ c → c < 6 → d < 6 → cell (put ws i c x) j d ≡ cell ws j d
cell_column ws i c x j d ne l m = get_or-set_other ws (6 * i + c) (6 * j + d) x 0 (λ e. omega arith)

-- the keys that are there stay
pub record Grows (ws us : List ℕ) : Type 0 where
  pub first : (i : ℕ) → cell ws i 0 ≢ 0 → cell us i 0 ≡ cell ws i 0
  pub second : (i : ℕ) → cell ws i 1 ≢ 0 → cell us i 1 ≡ cell ws i 1

pub grows_same : (ws us : List ℕ) → us ≡ ws → Grows ws us
grows_same ws us e = record { first = λ i _. ap (λ (z : List ℕ). cell z i 0) e; second = λ i _. ap (λ (z : List ℕ). cell z i 1) e }

pub grows_key : (ws : List ℕ) (i c x : ℕ) → c < 2 → cell ws i c ≡ 0 → Grows ws (put ws i c x)
grows_key ws i zero x l e = record {
  first = λ j ne. cell_row ws i 0 x j 0 (λ h. ne (ap (λ (z : ℕ). cell ws z 0) h ∙ e)) (omega arith) (omega arith);
  second = λ j _. cell_column ws i 0 x j 1 (λ h. omega arith) (omega arith) (omega arith);
}
grows_key ws i (suc zero) x l e = record {
  first = λ j _. cell_column ws i 1 x j 0 (λ h. omega arith) (omega arith) (omega arith);
  second = λ j ne. cell_row ws i 1 x j 1 (λ h. ne (ap (λ (z : ℕ). cell ws z 1) h ∙ e)) (omega arith) (omega arith);
}
grows_key ws i (suc (suc c)) x l e = absurd (omega arith)

pub grows_number : (ws : List ℕ) (i c x : ℕ) → 2 ≤ c → c < 6 → Grows ws (put ws i c x)
grows_number ws i c x l m = record {
  first = λ j _. cell_column ws i c x j 0 (λ h. omega arith) m (omega arith);
  second = λ j _. cell_column ws i c x j 1 (λ h. omega arith) m (omega arith);
}

pub decided_grows : (ws us : List ℕ) → Grows ws us → (l : Label) (i : ℕ) → Decided ws l i → Decided us l i
decided_grows ws us g l i d = let a = g.first i d.0 in (
  (λ e. d.0 (sym a ∙ e)),
  (λ e. let m = d.1 (sym a ∙ e) in let b = g.second i m.0 in ((λ z. m.0 (sym b ∙ z)), (λ z. m.1 (sym b ∙ z)))),
)

pub tried_grows : (rows : ℕ) (ws us : List ℕ) → Grows ws us → (l : Label) (t : ℕ) → Tried rows ws l t → Tried rows us l t
tried_grows rows ws us g l t d u m = decided_grows ws us g l (place_of l u rows) (d u m)

pub has_grows : (ws us : List ℕ) → Grows ws us → (l : Label) (i : ℕ) → IsValidLabel l → Has ws i l → Has us i l
has_grows ws us g l i ok h = (g.first i (λ e. pack1-ne-zero l (sym h.0 ∙ e)) ∙ h.0, g.second i (λ e. pack2-ne-zero l ok (sym h.1 ∙ e)) ∙ h.1)

abbrev place_of_keys : ℕ → ℕ → ℕ → ℕ → ℕ
place_of_keys a b t rows = place a b t rows

-- what is tried goes by the keys alone
pub tried_keys : (rows : ℕ) (ws : List ℕ) (l m : Label) (t : ℕ) → pack1 l ≡ pack1 m → pack2 l ≡ pack2 m → Tried rows ws l t → Tried rows ws m t
tried_keys rows ws l m t a b d u lu = subst (λ (k : ℕ × ℕ). (cell ws (place k.0 k.1 u rows) 0 ≢ 0) × (cell ws (place k.0 k.1 u rows) 0 ≡ k.0 → (cell ws (place k.0 k.1 u rows) 1 ≢ 0) × (cell ws (place k.0 k.1 u rows) 1 ≢ k.1))) (λ i. (a i, b i)) (d u lu)

-- a label stands in one row
pub one_row : (rows : ℕ) (ws : List ℕ) (stands : Probe → ℕ) (sums : Measure → ℕ) → RowsAreGood rows ws stands sums → (l : Label) (i j : ℕ) → IsValidLabel l → i < rows → j < rows → Has ws i l → Has ws j l → i ≡ j
one_row rows ws stands sums ok l i j is li lj a b = let t = place-surjective (pack1 l) (pack2 l) i rows li in let u = place-surjective (pack1 l) (pack2 l) j rows lj in
    let tried_t : Tried rows ws l t.0 = ok.earlier i t.0 l t.1 t.2 is a in let tried_u : Tried rows ws l u.0 = ok.earlier j u.0 l u.1 u.2 is b in
    dite (ℕ_discrete t.0 u.0) (λ e. sym t.2 ∙ (ap (λ (z : ℕ). place_of l z rows) e ∙ u.2))
    (λ ne. dite (dec_le t.0 u.0) (λ le. let d : Decided ws l i = subst (Decided ws l) t.2 (tried_u t.0 (omega arith)) in absurd ((d.1 a.0).1 a.1))
    (λ gt. let d : Decided ws l j = subst (Decided ws l) u.2 (tried_t u.0 (omega arith)) in absurd ((d.1 b.0).1 b.1)))

module _ (rows : ℕ) (ws : List ℕ) (S S' : Probe → ℕ) (T : Measure → ℕ) (ok : RowsAreGood rows ws S T) where
  -- a first key is set
  pub first_set : (i k : ℕ) → i < rows → cell ws i 0 ≡ 0 → k ≢ 0 → ((j h : ℕ) → S (second_at j h) ≤ S' (second_at j h)) → 0 < S' (second_at i k)
      → ((j : ℕ) → S' (adding_at j) ≡ S (adding_at j)) → ((j e : ℕ) → S' (pending_at j e) ≡ S (pending_at j e)) → RowsAreGood rows (put ws i 0 k) S' T
  first_set i k li free some_key more mine adding pending = let us : List ℕ = put ws i 0 k in let wide = ok.wide in let g = grows_key ws i 0 k (omega arith) free in
      let here : cell us i 0 ≡ k = cell_here rows ws i 0 k wide li (omega arith) in let no_second = ok.keyed i li free in
      let other : (j c : ℕ) → c < 6 → 1 ≤ c → cell us j c ≡ cell ws j c = λ j c m n. cell_column ws i 0 k j c (λ e. omega arith) (omega arith) m in
      let row : (j : ℕ) → j ≢ i → cell us j 0 ≡ cell ws j 0 = λ j ne. cell_row ws i 0 k j 0 ne (omega arith) (omega arith) in
      let away : (j : ℕ) (l : Label) → IsValidLabel l → Has us j l → j ≢ i = λ j l is h e. pack2-ne-zero l is (sym h.1 ∙ (other j 1 (omega arith) (omega arith) ∙ (ap (λ (z : ℕ). cell ws z 1) e ∙ no_second))) in
      let was : (j : ℕ) (l : Label) → IsValidLabel l → Has us j l → Has ws j l = λ j l is h. (sym (row j (away j l is h)) ∙ h.0, sym (other j 1 (omega arith) (omega arith)) ∙ h.1) in record {
        wide = length-set ws (6 * i + 0) k ∙ wide;
        keyed = λ j lj z. dite (ℕ_discrete j i) (λ e. absurd (some_key (sym here ∙ (ap (λ (y : ℕ). cell us y 0) (sym e) ∙ z)))) (λ ne. other j 1 (omega arith) (omega arith) ∙ ok.keyed j lj (sym (row j ne) ∙ z));
        label = λ j lj m. let l = ok.label j lj (λ z. m (other j 1 (omega arith) (omega arith) ∙ z)) in (l.0, l.1, has_grows ws us g l.0 j l.1 l.2);
        claimed = λ j lj m z. dite (ℕ_discrete j i) (λ e. subst (λ (y : ℕ). 0 < S' (second_at y (cell us y 0))) (sym e) (subst (λ (y : ℕ). 0 < S' (second_at i y)) (sym here) mine))
            (λ ne. let r = row j ne in let c = ok.claimed j lj (λ y. m (r ∙ y)) (sym (other j 1 (omega arith) (omega arith)) ∙ z) in subst (λ (y : ℕ). 0 < S' (second_at j y)) (sym r) (let d = more j (cell ws j 0) in omega arith));
        earlier = λ j t l lt e is h. tried_grows rows ws us g l t (ok.earlier j t l lt e is (was j l is h));
        packets_are = λ j e l lj is h le. other j (2 + 2 * e) (omega arith) (omega arith) ∙ (ok.packets_are j e l lj is (was j l is h) le ∙ ap (λ (z : ℕ). T (packets l e) + z) (sym (pending j e)));
        bytes_are = λ j e l lj is h le. other j (3 + 2 * e) (omega arith) (omega arith) ∙ ok.bytes_are j e l lj is (was j l is h) le;
        blank = λ j c lj z lo hi. other j c hi (omega arith) ∙ ok.blank j c lj (sym (other j 1 (omega arith) (omega arith)) ∙ z) lo hi;
        used = λ j l lj is h. let u = ok.used j l lj is (was j l is h) in let a = adding j in omega arith;
        placed = λ l is m. let p = ok.placed l is m in (p.0, p.1, has_grows ws us g l p.0 is p.2);
        filled = λ l is m j lj. decided_grows ws us g l j (ok.filled l is m j lj);
      }

  -- a second key is set, of a label that stood in no row
  pub second_set : (i t : ℕ) (l0 : Label) → IsValidLabel l0 → t < rows → place_of l0 t rows ≡ i → cell ws i 0 ≡ pack1 l0 → cell ws i 1 ≡ 0 → Tried rows ws l0 t
      → ((l : Label) (e : ℕ) → T (landed l) ≡ 0 → (T (packets l e) ≡ 0) × (T (bytes l e) ≡ 0)) → ((e : ℕ) → S' (pending_at i e) ≡ 0)
      → ((j h : ℕ) → j ≢ i → S (second_at j h) ≤ S' (second_at j h)) → ((j : ℕ) → S (adding_at j) ≤ S' (adding_at j)) → 0 < S' (adding_at i)
      → ((j e : ℕ) → j ≢ i → S' (pending_at j e) ≡ S (pending_at j e)) → RowsAreGood rows (put ws i 1 (pack2 l0)) S' T
  second_set i t l0 is0 lt at key free tried law none more adding mine pending = let us : List ℕ = put ws i 1 (pack2 l0) in let wide = ok.wide in let g = grows_key ws i 1 (pack2 l0) (omega arith) free in
      let li : i < rows = subst (λ (z : ℕ). z < rows) at (place-lt (pack1 l0) (pack2 l0) t rows lt) in
      let here : cell us i 1 ≡ pack2 l0 = cell_here rows ws i 1 (pack2 l0) wide li (omega arith) in
      let other : (j c : ℕ) → c < 6 → c ≢ 1 → cell us j c ≡ cell ws j c = λ j c m n. cell_column ws i 1 (pack2 l0) j c n (omega arith) m in
      let row : (j : ℕ) → j ≢ i → cell us j 1 ≡ cell ws j 1 = λ j ne. cell_row ws i 1 (pack2 l0) j 1 ne (omega arith) (omega arith) in
      let one : (j : ℕ) → cell us j 0 ≡ cell ws j 0 = λ j. other j 0 (omega arith) (λ e. omega arith) in
      let was : (j : ℕ) (l : Label) → j ≢ i → Has us j l → Has ws j l = λ j l ne h. (sym (one j) ∙ h.0, sym (row j ne) ∙ h.1) in
      let keys : (l : Label) → Has us i l → (pack1 l ≡ pack1 l0) × (pack2 l ≡ pack2 l0) = λ l h. (sym h.0 ∙ (one i ∙ key), sym h.1 ∙ here) in
      let fresh : (l : Label) → IsValidLabel l → pack1 l ≡ pack1 l0 → pack2 l ≡ pack2 l0 → T (landed l) ≡ 0 = λ l is a b. dite (ℕ_discrete (T (landed l)) 0) (λ e. e) (λ ne.
      let p = ok.placed l is (omega arith) in let u = place-surjective (pack1 l) (pack2 l) p.0 rows p.1 in let d : Tried rows ws l u.0 = ok.earlier p.0 u.0 l u.1 u.2 is p.2 in
      let alike : (z : ℕ) → place_of l z rows ≡ place_of l0 z rows = λ z i. place_of_keys (a i) (b i) z rows in
      dite (dec_le t u.0) (λ le. dite (ℕ_discrete t u.0) (λ e. absurd (let same : p.0 ≡ i = sym u.2 ∙ (ap (λ (z : ℕ). place_of l z rows) (sym e) ∙ (alike t ∙ at)) in pack2-ne-zero l is (sym p.2.1 ∙ (ap (λ (z : ℕ). cell ws z 1) same ∙ free))))
      (λ ne. let x : Decided ws l i = subst (Decided ws l) (alike t ∙ at) (d t (omega arith)) in absurd ((x.1 (key ∙ sym a)).0 free)))
      (λ gt. let x : Decided ws l0 p.0 = subst (Decided ws l0) (sym (alike u.0) ∙ u.2) (tried u.0 (omega arith)) in absurd ((x.1 (p.2.0 ∙ a)).1 (p.2.1 ∙ b)))) in record {
        wide = length-set ws (6 * i + 1) (pack2 l0) ∙ wide;
        keyed = λ j lj z. dite (ℕ_discrete j i) (λ e. absurd (pack1-ne-zero l0 (sym key ∙ (ap (λ (y : ℕ). cell ws y 0) (sym e) ∙ (sym (one j) ∙ z))))) (λ ne. row j ne ∙ ok.keyed j lj (sym (one j) ∙ z));
        label = λ j lj m. dite (ℕ_discrete j i) (λ e. (l0, is0, (one j ∙ (ap (λ (y : ℕ). cell ws y 0) e ∙ key), ap (λ (y : ℕ). cell us y 1) e ∙ here)))
            (λ ne. let l = ok.label j lj (λ z. m (row j ne ∙ z)) in (l.0, l.1, has_grows ws us g l.0 j l.1 l.2));
        claimed = λ j lj m z. dite (ℕ_discrete j i) (λ e. absurd (pack2-ne-zero l0 is0 (sym here ∙ (ap (λ (y : ℕ). cell us y 1) (sym e) ∙ z))))
            (λ ne. let c = ok.claimed j lj (λ y. m (one j ∙ y)) (sym (row j ne) ∙ z) in subst (λ (y : ℕ). 0 < S' (second_at j y)) (sym (one j)) (let d = more j (cell ws j 0) ne in omega arith));
        earlier = λ j u l lu e is h. dite (ℕ_discrete j i) (λ same. let k : (pack1 l ≡ pack1 l0) × (pack2 l ≡ pack2 l0) = keys l (subst (λ (z : ℕ). Has us z l) same h) in
            let alike : place_of l u rows ≡ place_of l0 u rows = λ z. place_of_keys (k.0 z) (k.1 z) u rows in let it : t ≡ u = place-injective (pack1 l0) (pack2 l0) t u rows lt lu (at ∙ (sym same ∙ (sym e ∙ alike))) in
            tried_grows rows ws us g l u (tried_keys rows ws l0 l u (sym k.0) (sym k.1) (subst (Tried rows ws l0) it tried)))
            (λ ne. tried_grows rows ws us g l u (ok.earlier j u l lu e is (was j l ne h)));
        packets_are = λ j e l lj is h le. dite (ℕ_discrete j i) (λ same. let k = keys l (subst (λ (z : ℕ). Has us z l) same h) in let z = law l e (fresh l is k.0 k.1) in let p = none e in
            other j (2 + 2 * e) (omega arith) (λ h. omega arith) ∙ (ok.blank j (2 + 2 * e) lj (ap (λ (y : ℕ). cell ws y 1) same ∙ free) (omega arith) (omega arith) ∙ (λ i. sym z.0 i + sym (ap (λ (y : ℕ). S' (pending_at y e)) same ∙ p) i)))
            (λ ne. other j (2 + 2 * e) (omega arith) (λ h. omega arith) ∙ (ok.packets_are j e l lj is (was j l ne h) le ∙ ap (λ (z : ℕ). T (packets l e) + z) (sym (pending j e ne))));
        bytes_are = λ j e l lj is h le. dite (ℕ_discrete j i) (λ same. let k = keys l (subst (λ (z : ℕ). Has us z l) same h) in let z = law l e (fresh l is k.0 k.1) in
            other j (3 + 2 * e) (omega arith) (λ h. omega arith) ∙ (ok.blank j (3 + 2 * e) lj (ap (λ (y : ℕ). cell ws y 1) same ∙ free) (omega arith) (omega arith) ∙ sym z.1))
            (λ ne. other j (3 + 2 * e) (omega arith) (λ h. omega arith) ∙ ok.bytes_are j e l lj is (was j l ne h) le);
        blank = λ j c lj z lo hi. dite (ℕ_discrete j i) (λ e. absurd (pack2-ne-zero l0 is0 (sym here ∙ (ap (λ (y : ℕ). cell us y 1) (sym e) ∙ z))))
            (λ ne. other j c hi (λ h. omega arith) ∙ ok.blank j c lj (sym (row j ne) ∙ z) lo hi);
        used = λ j l lj is h. dite (ℕ_discrete j i) (λ e. let m = subst (λ (y : ℕ). 0 < S' (adding_at y)) (sym e) mine in omega arith) (λ ne. let u = ok.used j l lj is (was j l ne h) in let a = adding j in omega arith);
        placed = λ l is m. let p = ok.placed l is m in (p.0, p.1, has_grows ws us g l p.0 is p.2);
        filled = λ l is m j lj. decided_grows ws us g l j (ok.filled l is m j lj);
      }

  -- the views' standings change, and no word
  pub stands_change : ((j h : ℕ) → cell ws j 1 ≡ 0 → S (second_at j h) ≤ S' (second_at j h)) → ((j : ℕ) → S (adding_at j) ≤ S' (adding_at j)) → ((j e : ℕ) → S' (pending_at j e) ≡ S (pending_at j e)) → RowsAreGood rows ws S' T
  stands_change more adding pending = record {
    wide = ok.wide;
    keyed = ok.keyed;
    label = ok.label;
    claimed = λ j lj m z. let c = ok.claimed j lj m z in let d = more j (cell ws j 0) z in omega arith;
    earlier = ok.earlier;
    packets_are = λ j e l lj is h le. ok.packets_are j e l lj is h le ∙ ap (λ (z : ℕ). T (packets l e) + z) (sym (pending j e));
    bytes_are = ok.bytes_are;
    blank = ok.blank;
    used = λ j l lj is h. let u = ok.used j l lj is h in let a = adding j in omega arith;
    placed = ok.placed;
    filled = ok.filled;
  }

  -- packets are added
  pub packets_added : (i d n x : ℕ) → i < rows → d < 2 → x ≡ cell ws i (2 + 2 * d) + n → cell ws i 1 ≢ 0 → ((j h : ℕ) → S' (second_at j h) ≡ S (second_at j h)) → ((j : ℕ) → S' (adding_at j) ≡ S (adding_at j))
      → S' (pending_at i d) ≡ S (pending_at i d) + n → ((j e : ℕ) → (j ≢ i) ⊎ (e ≢ d) → S' (pending_at j e) ≡ S (pending_at j e)) → RowsAreGood rows (put ws i (2 + 2 * d) x) S' T
  packets_added i d n x li ld is_x taken second adding here else = let us : List ℕ = put ws i (2 + 2 * d) x in let wide = ok.wide in let g = grows_number ws i (2 + 2 * d) x (omega arith) (omega arith) in
      let other : (j c : ℕ) → c < 6 → c ≢ 2 + 2 * d → cell us j c ≡ cell ws j c = λ j c m ne. cell_column ws i (2 + 2 * d) x j c ne (omega arith) m in
      let row : (j c : ℕ) → c < 6 → j ≢ i → cell us j c ≡ cell ws j c = λ j c m ne. cell_row ws i (2 + 2 * d) x j c ne (omega arith) m in
      let one : (j : ℕ) → cell us j 0 ≡ cell ws j 0 = λ j. other j 0 (omega arith) (λ e. omega arith) in let two : (j : ℕ) → cell us j 1 ≡ cell ws j 1 = λ j. other j 1 (omega arith) (λ e. omega arith) in
      let was : (j : ℕ) (l : Label) → Has us j l → Has ws j l = λ j l h. (sym (one j) ∙ h.0, sym (two j) ∙ h.1) in record {
        wide = length-set ws (6 * i + (2 + 2 * d)) x ∙ wide;
        keyed = λ j lj z. two j ∙ ok.keyed j lj (sym (one j) ∙ z);
        label = λ j lj m. let l = ok.label j lj (λ z. m (two j ∙ z)) in (l.0, l.1, has_grows ws us g l.0 j l.1 l.2);
        claimed = λ j lj m z. let c = ok.claimed j lj (λ y. m (one j ∙ y)) (sym (two j) ∙ z) in subst (λ (y : ℕ). 0 < S' (second_at j y)) (sym (one j)) (let e = second j (cell ws j 0) in omega arith);
        earlier = λ j t l lt e is h. tried_grows rows ws us g l t (ok.earlier j t l lt e is (was j l h));
        packets_are = λ j e l lj is h le. let old = ok.packets_are j e l lj is (was j l h) le in dite (ℕ_discrete j i)
            (λ same. dite (ℕ_discrete e d) (λ now. subst (λ (z : ℕ × ℕ). cell us z.0 (2 + 2 * z.1) ≡ T (packets l z.1) + S' (pending_at z.0 z.1)) (λ k. (sym same k, sym now k))
            (let old' = subst (λ (z : ℕ × ℕ). cell ws z.0 (2 + 2 * z.1) ≡ T (packets l z.1) + S (pending_at z.0 z.1)) (λ k. (same k, now k)) old in let c = cell_here rows ws i (2 + 2 * d) x wide li (omega arith) in omega arith))
            (λ ne. let s = else j e (inr ne) in other j (2 + 2 * e) (omega arith) (λ z. ne (omega arith)) ∙ (old ∙ ap (λ (z : ℕ). T (packets l e) + z) (sym s))))
            (λ ne. let s = else j e (inl ne) in row j (2 + 2 * e) (omega arith) ne ∙ (old ∙ ap (λ (z : ℕ). T (packets l e) + z) (sym s)));
        bytes_are = λ j e l lj is h le. other j (3 + 2 * e) (omega arith) (λ z. omega arith) ∙ ok.bytes_are j e l lj is (was j l h) le;
        blank = λ j c lj z lo hi. row j c hi (λ e. taken (ap (λ (y : ℕ). cell ws y 1) (sym e) ∙ (sym (two j) ∙ z))) ∙ ok.blank j c lj (sym (two j) ∙ z) lo hi;
        used = λ j l lj is h. let u = ok.used j l lj is (was j l h) in let a = adding j in omega arith;
        placed = λ l is m. let p = ok.placed l is m in (p.0, p.1, has_grows ws us g l p.0 is p.2);
        filled = λ l is m j lj. decided_grows ws us g l j (ok.filled l is m j lj);
      }

  module _ (T' : Measure → ℕ) where
    -- a charge found no place
    pub charge_missed : (l0 : Label) → Tried rows ws l0 rows → ((l : Label) → T' (landed l) ≡ T (landed l)) → ((l : Label) (e : ℕ) → (T' (packets l e) ≡ T (packets l e)) × (T' (bytes l e) ≡ T (bytes l e)))
        → ((l : Label) → same_label l0 l ≡ false → T' (missed l) ≡ T (missed l)) → RowsAreGood rows ws S T'
    charge_missed l0 tried same numbers else = record {
      wide = ok.wide;
      keyed = ok.keyed;
      label = ok.label;
      claimed = ok.claimed;
      earlier = ok.earlier;
      packets_are = λ j e l lj is h le. ok.packets_are j e l lj is h le ∙ ap (λ (z : ℕ). z + S (pending_at j e)) (sym (numbers l e).0);
      bytes_are = λ j e l lj is h le. ok.bytes_are j e l lj is h le ∙ sym (numbers l e).1;
      blank = ok.blank;
      used = λ j l lj is h. let u = ok.used j l lj is h in let a = same l in omega arith;
      placed = λ l is m. ok.placed l is (let a = same l in omega arith);
      filled = λ l is m j lj. yes_or_no (same_label l0 l) (λ e. let k = same_true l0 l e in let u = place-surjective (pack1 l) (pack2 l) j rows lj in subst (Decided ws l) u.2 (tried_keys rows ws l0 l rows k.0 k.1 tried u.0 u.1))
          (λ e. ok.filled l is (let a = else l e in omega arith) j lj);
    }

    -- bytes are added, and the charge has landed
    pub bytes_added : (i d n b x : ℕ) (l0 : Label) → i < rows → d < 2 → IsValidLabel l0 → Has ws i l0 → x ≡ cell ws i (3 + 2 * d) + b → ((j h : ℕ) → S' (second_at j h) ≡ S (second_at j h)) → ((j : ℕ) → j ≢ i → S' (adding_at j) ≡ S (adding_at j))
        → S' (pending_at i d) + n ≡ S (pending_at i d) → ((j e : ℕ) → (j ≢ i) ⊎ (e ≢ d) → S' (pending_at j e) ≡ S (pending_at j e)) → ((l : Label) → T' (missed l) ≡ T (missed l))
        → ((l : Label) → same_label l0 l ≡ true → (T' (landed l) ≡ T (landed l) + 1) × (T' (packets l d) ≡ T (packets l d) + n) × (T' (bytes l d) ≡ T (bytes l d) + b))
        → ((l : Label) (e : ℕ) → e ≢ d → (T' (packets l e) ≡ T (packets l e)) × (T' (bytes l e) ≡ T (bytes l e)))
        → ((l : Label) → same_label l0 l ≡ false → (T' (landed l) ≡ T (landed l)) × (T' (packets l d) ≡ T (packets l d)) × (T' (bytes l d) ≡ T (bytes l d))) → RowsAreGood rows (put ws i (3 + 2 * d) x) S' T'
    bytes_added i d n b x l0 li ld is0 has0 is_x second adding here else missed_same hit aside miss = let us : List ℕ = put ws i (3 + 2 * d) x in let wide = ok.wide in let g = grows_number ws i (3 + 2 * d) x (omega arith) (omega arith) in
        let other : (j c : ℕ) → c < 6 → c ≢ 3 + 2 * d → cell us j c ≡ cell ws j c = λ j c m ne. cell_column ws i (3 + 2 * d) x j c ne (omega arith) m in
        let row : (j c : ℕ) → c < 6 → j ≢ i → cell us j c ≡ cell ws j c = λ j c m ne. cell_row ws i (3 + 2 * d) x j c ne (omega arith) m in
        let one : (j : ℕ) → cell us j 0 ≡ cell ws j 0 = λ j. other j 0 (omega arith) (λ e. omega arith) in let two : (j : ℕ) → cell us j 1 ≡ cell ws j 1 = λ j. other j 1 (omega arith) (λ e. omega arith) in
        let was : (j : ℕ) (l : Label) → Has us j l → Has ws j l = λ j l h. (sym (one j) ∙ h.0, sym (two j) ∙ h.1) in
        let its : (l : Label) → IsValidLabel l → Has ws i l → same_label l0 l ≡ true = λ l is h. same_keys l0 l is0 is (sym has0.0 ∙ h.0) (sym has0.1 ∙ h.1) in
        let not_its : (j : ℕ) (l : Label) → j < rows → IsValidLabel l → Has ws j l → j ≢ i → same_label l0 l ≡ false = λ j l lj is h ne. yes_or_no (same_label l0 l) (λ e. let k = same_true l0 l e in absurd (ne (one_row rows ws S T ok l j i is lj li h (has0.0 ∙ k.0, has0.1 ∙ k.1)))) (λ e. e) in record {
          wide = length-set ws (6 * i + (3 + 2 * d)) x ∙ wide;
          keyed = λ j lj z. two j ∙ ok.keyed j lj (sym (one j) ∙ z);
          label = λ j lj m. let l = ok.label j lj (λ z. m (two j ∙ z)) in (l.0, l.1, has_grows ws us g l.0 j l.1 l.2);
          claimed = λ j lj m z. let c = ok.claimed j lj (λ y. m (one j ∙ y)) (sym (two j) ∙ z) in subst (λ (y : ℕ). 0 < S' (second_at j y)) (sym (one j)) (let e = second j (cell ws j 0) in omega arith);
          earlier = λ j t l lt e is h. tried_grows rows ws us g l t (ok.earlier j t l lt e is (was j l h));
          packets_are = λ j e l lj is h le. let old = ok.packets_are j e l lj is (was j l h) le in let c = other j (2 + 2 * e) (omega arith) (λ z. omega arith) in dite (ℕ_discrete e d)
              (λ now. subst (λ (z : ℕ). cell us j (2 + 2 * z) ≡ T' (packets l z) + S' (pending_at j z)) (sym now) (let old' = subst (λ (z : ℕ). cell ws j (2 + 2 * z) ≡ T (packets l z) + S (pending_at j z)) now old in
              let c' = subst (λ (z : ℕ). cell us j (2 + 2 * z) ≡ cell ws j (2 + 2 * z)) now c in dite (ℕ_discrete j i)
              (λ same. let k = (hit l (its l is (subst (λ (z : ℕ). Has ws z l) same (was j l h)))).1 in let p = subst (λ (z : ℕ). S' (pending_at z d) + n ≡ S (pending_at z d)) (sym same) here in omega arith)
              (λ ne. let k = (miss l (not_its j l lj is (was j l h) ne)).1 in let p = else j d (inl ne) in omega arith)))
              (λ ne. let k = (aside l e ne).0 in let p = else j e (inr ne) in omega arith);
          bytes_are = λ j e l lj is h le. let old = ok.bytes_are j e l lj is (was j l h) le in dite (ℕ_discrete e d)
              (λ now. subst (λ (z : ℕ). cell us j (3 + 2 * z) ≡ T' (bytes l z)) (sym now) (let old' = subst (λ (z : ℕ). cell ws j (3 + 2 * z) ≡ T (bytes l z)) now old in dite (ℕ_discrete j i)
              (λ same. let k = (hit l (its l is (subst (λ (z : ℕ). Has ws z l) same (was j l h)))).2 in subst (λ (z : ℕ). cell us z (3 + 2 * d) ≡ T' (bytes l d)) (sym same)
              (let old2 = subst (λ (z : ℕ). cell ws z (3 + 2 * d) ≡ T (bytes l d)) same old' in let c = cell_here rows ws i (3 + 2 * d) x wide li (omega arith) in omega arith))
              (λ ne. let k = (miss l (not_its j l lj is (was j l h) ne)).2 in let c = row j (3 + 2 * d) (omega arith) ne in omega arith)))
              (λ ne. let k = (aside l e ne).1 in let c = other j (3 + 2 * e) (omega arith) (λ z. ne (omega arith)) in omega arith);
          blank = λ j c lj z lo hi. row j c hi (λ e. pack2-ne-zero l0 is0 (sym has0.1 ∙ (ap (λ (y : ℕ). cell ws y 1) (sym e) ∙ (sym (two j) ∙ z)))) ∙ ok.blank j c lj (sym (two j) ∙ z) lo hi;
          used = λ j l lj is h. dite (ℕ_discrete j i) (λ same. let k = (hit l (its l is (subst (λ (z : ℕ). Has ws z l) same (was j l h)))).0 in omega arith)
              (λ ne. let u = ok.used j l lj is (was j l h) in let a = adding j ne in let k = (miss l (not_its j l lj is (was j l h) ne)).0 in omega arith);
          placed = λ l is m. yes_or_no (same_label l0 l) (λ e. let k = same_true l0 l e in (i, li, has_grows ws us g l i is (has0.0 ∙ k.0, has0.1 ∙ k.1)))
              (λ e. let p = ok.placed l is (let k = (miss l e).0 in omega arith) in (p.0, p.1, has_grows ws us g l p.0 is p.2));
          filled = λ l is m j lj. decided_grows ws us g l j (ok.filled l is (let k = missed_same l in omega arith) j lj);
        }

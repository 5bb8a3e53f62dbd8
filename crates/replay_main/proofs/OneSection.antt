-- A section is told by its lines and the number of the first.
use Rattle.std.proofs.Common.{◌≡◌, ◌⊎◌, ℕ, List, [], ◌∷◌, ◌++◌, length, map, take, drop, Option, Some, None, refl, sym, ap, ◌∙◌, append_assoc, arith, inl, inr}
use Rattle.std.specs.List.{flat_map}
use Rattle.std.proofs.lemmas.List.{length-take-le, length-drop, take-append-drop}
use Rattle.desk_core.specs.declared.command.Command.{Command}
use Rattle.script_text.specs.declared.line.Line.{Line}
use Rattle.script_text.specs.declared.line.Line.TheVariants as lines
use Rattle.script_text.specs.declared.section.Section.{Section}
use Rattle.script_text.specs.Lines.{LaneLine}
use Rattle.script_text.specs.Parts.{cap_lines, lane_lines, desk_lines, desk_numbers, line_numbers, section_lines, sum_of, IsSection}

pub first_same : {A : Type 0} (x y : A) (xs ys : List A) → x ∷ xs ≡ y ∷ ys → (x ≡ y) × (xs ≡ ys)
first_same x y xs ys e = (cc, cc)

-- ---- the capture

-- what stands behind the capture begins with a lane or the desk
behind_caps : (ks : List (List (ℕ × LaneLine))) (d : Option (List (ℕ × Command))) (l : Line) (more : List Line) → flat_map lane_lines ks ++ desk_lines d ≡ l ∷ more → (l ≡ lines.Lane) ⊎ (l ≡ lines.Desk)
behind_caps [] None l more e = absurd cc
behind_caps [] (Some commands) l more e = inr (sym (first_same _ l _ more e).0)
behind_caps (a ∷ ks) d l more e = inl (sym (first_same _ l _ more e).0)

abbrev NoCap : List Line → Type 0
NoCap ls = (bytes : List ℕ) (more : List Line) → ls ≡ lines.Cap bytes ∷ more → ⊥

no_cap : (ks : List (List (ℕ × LaneLine))) (d : Option (List (ℕ × Command))) → NoCap (flat_map lane_lines ks ++ desk_lines d)
no_cap ks d bytes more e = elim (behind_caps ks d (lines.Cap bytes) more e) [ inl is ↦ absurd cc | inr is ↦ absurd cc ]

abbrev NoHook : List Line → Type 0
NoHook ls = (h : LaneLine) (more : List Line) → ls ≡ lines.Hook h ∷ more → ⊥

no_hook : (ks : List (List (ℕ × LaneLine))) (d : Option (List (ℕ × Command))) → NoHook (flat_map lane_lines ks ++ desk_lines d)
no_hook ks d h more e = elim (behind_caps ks d (lines.Hook h) more e) [ inl is ↦ absurd cc | inr is ↦ absurd cc ]

no_bytes : (xs : List ℕ) → 0 ≡ length xs → xs ≡ []
no_bytes [] e = refl
no_bytes (x ∷ xs) e = absurd (omega (arith, e))

caps_same : (ns ms xs ys : List ℕ) (ks js : List Line) → NoCap ks → NoCap js → cap_lines ns xs ++ ks ≡ cap_lines ms ys ++ js → sum_of ns ≡ length xs → sum_of ms ≡ length ys → (ns ≡ ms) × (xs ≡ ys) × (ks ≡ js)
caps_same [] [] xs ys ks js none neither e p q = (refl, no_bytes xs p ∙ sym (no_bytes ys q), e)
caps_same [] (m ∷ ms) xs ys ks js none neither e p q = absurd (none _ _ e)
caps_same (n ∷ ns) [] xs ys ks js none neither e p q = absurd (neither _ _ (sym e))
caps_same (n ∷ ns) (m ∷ ms) xs ys ks js none neither e p q =
    let parts = first_same (lines.Cap (take n xs)) (lines.Cap (take m ys)) (cap_lines ns (drop n xs) ++ ks) (cap_lines ms (drop m ys) ++ js) e in
    let front : take n xs ≡ take m ys = let z = parts.0 in cc in
    let long : length (take n xs) ≡ n = length-take-le n xs (omega (arith, p)) in
    let wide : length (take m ys) ≡ m = length-take-le m ys (omega (arith, q)) in
    let here : n ≡ m = sym long ∙ ap length front ∙ wide in
    let rest = caps_same ns ms (drop n xs) (drop m ys) ks js none neither parts.1 (omega (arith, p, length-drop n xs)) (omega (arith, q, length-drop m ys)) in (
      (λ i. here i ∷ rest.0 i),
      sym (take-append-drop n xs) ∙ (λ i. front i ++ rest.1 i) ∙ take-append-drop m ys,
      rest.2,
    )

-- ---- lanes and the desk

hooks_same : (a b : List (ℕ × LaneLine)) (ks js : List Line) (ns ms : List ℕ) → NoHook ks → NoHook js → map (λ (h : ℕ × LaneLine). lines.Hook h.1) a ++ ks ≡ map (λ (h : ℕ × LaneLine). lines.Hook h.1) b ++ js
    → map (λ (h : ℕ × LaneLine). h.0) a ++ ns ≡ map (λ (h : ℕ × LaneLine). h.0) b ++ ms → (a ≡ b) × (ks ≡ js) × (ns ≡ ms)
hooks_same [] [] ks js ns ms none neither e n = (refl, e, n)
hooks_same [] (k ∷ b) ks js ns ms none neither e n = absurd (none _ _ e)
hooks_same (h ∷ a) [] ks js ns ms none neither e n = absurd (neither _ _ (sym e))
hooks_same (h ∷ a) (k ∷ b) ks js ns ms none neither e n =
    let line = first_same _ _ _ _ e in
    let number = first_same _ _ _ _ n in
    let here : h.1 ≡ k.1 = let z : lines.Hook h.1 ≡ lines.Hook k.1 = line.0 in cc in
    let rest = hooks_same a b ks js ns ms none neither line.1 number.1 in
    ((λ i. (number.0 i, here i) ∷ rest.0 i), rest.1, rest.2)

commands_same : (cs ds : List (ℕ × Command)) → map (λ (c : ℕ × Command). lines.Command c.1) cs ≡ map (λ (c : ℕ × Command). lines.Command c.1) ds → map (λ (c : ℕ × Command). c.0) cs ≡ map (λ (c : ℕ × Command). c.0) ds → cs ≡ ds
commands_same [] [] e n = refl
commands_same [] (d ∷ ds) e n = absurd cc
commands_same (c ∷ cs) [] e n = absurd cc
commands_same (c ∷ cs) (d ∷ ds) e n =
    let line = first_same _ _ _ _ e in
    let number = first_same _ _ _ _ n in
    let here : c.1 ≡ d.1 = let z : lines.Command c.1 ≡ lines.Command d.1 = line.0 in cc in
    let rest = commands_same cs ds line.1 number.1 in
    λ i. (number.0 i, here i) ∷ rest i

desk_same : (d e : Option (List (ℕ × Command))) → desk_lines d ≡ desk_lines e → desk_numbers d ≡ desk_numbers e → d ≡ e
desk_same None None p q = refl
desk_same None (Some ds) p q = absurd cc
desk_same (Some cs) None p q = absurd cc
desk_same (Some cs) (Some ds) p q = ap (λ (c : List (ℕ × Command)). Some c) (commands_same cs ds (first_same _ _ _ _ p).1 q)

abbrev numbers_of : List (ℕ × LaneLine) → List ℕ
numbers_of lane = map (λ (h : ℕ × LaneLine). h.0) lane

lanes_same : (ks js : List (List (ℕ × LaneLine))) (d e : Option (List (ℕ × Command))) → flat_map lane_lines ks ++ desk_lines d ≡ flat_map lane_lines js ++ desk_lines e
    → flat_map numbers_of ks ++ desk_numbers d ≡ flat_map numbers_of js ++ desk_numbers e → (ks ≡ js) × (d ≡ e)
lanes_same [] [] d e p q = (refl, desk_same d e p q)
lanes_same [] (b ∷ js) None e p q = absurd cc
lanes_same [] (b ∷ js) (Some cs) e p q = absurd (let z : lines.Desk ≡ lines.Lane = (first_same _ _ _ _ p).0 in cc)
lanes_same (a ∷ ks) [] d None p q = absurd cc
lanes_same (a ∷ ks) [] d (Some cs) p q = absurd (let z : lines.Lane ≡ lines.Desk = (first_same _ _ _ _ p).0 in cc)
lanes_same (a ∷ ks) (b ∷ js) d e p q =
    let line = first_same _ _ _ _ p in
    let here = hooks_same a b (flat_map lane_lines ks ++ desk_lines d) (flat_map lane_lines js ++ desk_lines e) (flat_map numbers_of ks ++ desk_numbers d) (flat_map numbers_of js ++ desk_numbers e) (no_hook ks d) (no_hook js e)
    (sym (append_assoc _ (flat_map lane_lines ks) (desk_lines d)) ∙ line.1 ∙ append_assoc _ (flat_map lane_lines js) (desk_lines e))
    (sym (append_assoc (numbers_of a) (flat_map numbers_of ks) (desk_numbers d)) ∙ q ∙ append_assoc (numbers_of b) (flat_map numbers_of js) (desk_numbers e)) in
    let rest = lanes_same ks js d e here.1 here.2 in
    ((λ i. here.0 i ∷ rest.0 i), rest.1)

-- ---- the section

pub section_same : (s r : Section) → IsSection s → IsSection r → s.first ≡ r.first → section_lines s ≡ section_lines r → s ≡ r
section_same s r p q first is =
    let line = first_same _ _ _ _ is in
    let caps = caps_same s.caps r.caps s.capture r.capture (flat_map lane_lines s.lanes ++ desk_lines s.desk) (flat_map lane_lines r.lanes ++ desk_lines r.desk) (no_cap s.lanes s.desk) (no_cap r.lanes r.desk) line.1 p.captured q.captured in
    let rest = lanes_same s.lanes r.lanes s.desk r.desk caps.2 (p.numbered ∙ (λ i. line_numbers (first i) (is i)) ∙ sym q.numbered) in
    λ i. record { first = first i; capture = caps.1 i; caps = caps.0 i; lanes = rest.0 i; desk = rest.1 i }

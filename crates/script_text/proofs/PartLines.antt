-- The lines of a section that grows, part by part.
use Rattle.script_text.specs.Lines.{LaneLine}
use Rattle.std.proofs.Common.{◌≡◌, ℕ, suc, ◌+◌, ◌≤◌, List, [], ◌∷◌, ◌++◌, length, take, drop, refl, sym, ap, ◌∙◌, append_assoc, arith}
use Rattle.std.specs.Prelude.{Option, Some, None, Result, Ok, Err, OnOk}
use Rattle.std.specs.List.{flat_map}
use Rattle.std.proofs.lemmas.List.{append-nil, map-append, take-append-le, drop-append-le, length-drop}
use Rattle.std.proofs.Math.Seq.{take-length}
use Rattle.desk_core.specs.declared.command.Command.{Command}
use Rattle.script_text.specs.declared.line.Line.{Line}
use Rattle.script_text.specs.declared.line.Line.TheVariants as lines
use Rattle.script_text.specs.declared.draft.Draft.{Draft}
use Rattle.script_text.specs.Parts.{cap_lines, lane_lines, desk_lines, desk_numbers, sum_of, line_numbers}
use Rattle.script_text.specs.Drafts.{draft_lines, draft_numbers, lane_part, lane_numbers, numbers_of, IsDraft, IsBare}

pub lane_push : (hooks : List (ℕ × LaneLine)) (h : ℕ × LaneLine) → lane_lines (hooks ++ h ∷ []) ≡ lane_lines hooks ++ lines.Hook h.1 ∷ []
lane_push hooks h = ap (λ (ls : List Line). lines.Lane ∷ ls) (map-append (λ (k : ℕ × LaneLine). lines.Hook k.1) hooks (h ∷ []))

pub flat_push : {A B : Type 0} (f : A → List B) (xs : List A) (x : A) → flat_map f (xs ++ x ∷ []) ≡ flat_map f xs ++ f x
flat_push f [] x = append-nil (f x)
flat_push f (y ∷ xs) x = ap (λ t. f y ++ t) (flat_push f xs x) ∙ sym (append_assoc (f y) (flat_map f xs) (f x))

-- ---- the capture

pub sum_push : (ns : List ℕ) (n : ℕ) → sum_of (ns ++ n ∷ []) ≡ sum_of ns + n
sum_push [] n = omega arith
sum_push (m ∷ ns) n = omega (arith, sum_push ns n)

cap_same : (a b : List ℕ) (xs ys : List Line) → a ≡ b → xs ≡ ys → lines.Cap a ∷ xs ≡ lines.Cap b ∷ ys
cap_same a b xs ys p q = rw (p, q) refl

pub caps_push : (caps capture bytes : List ℕ) (n : ℕ) → sum_of caps ≡ length capture → n ≡ length bytes → cap_lines (caps ++ n ∷ []) (capture ++ bytes) ≡ cap_lines caps capture ++ lines.Cap bytes ∷ []
caps_push [] [] bytes n e is = ap (λ (t : List ℕ). lines.Cap t ∷ []) (ap (λ (k : ℕ). take k bytes) is ∙ take-length bytes)
caps_push [] (b ∷ bs) bytes n e is = absurd (omega (arith, e))
caps_push (m ∷ ms) capture bytes n e is =
    let room : m ≤ length capture = omega (arith, e) in
    let left : sum_of ms ≡ length (drop m capture) = omega (arith, e, length-drop m capture) in
    cap_same (take m (capture ++ bytes)) (take m capture) (cap_lines (ms ++ n ∷ []) (drop m (capture ++ bytes))) (cap_lines ms (drop m capture) ++ lines.Cap bytes ∷ [])
    (take-append-le m capture bytes room)
    (ap (cap_lines (ms ++ n ∷ [])) (drop-append-le m capture bytes room) ∙ caps_push ms (drop m capture) bytes n left is)

-- ---- one item more at the end of lists one after another

pub tail_three : {A : Type 0} (l p d x : List A) → l ++ (p ++ (d ++ x)) ≡ (l ++ (p ++ d)) ++ x
tail_three l p d x = ap (λ t. l ++ t) (sym (append_assoc p d x)) ∙ sym (append_assoc l (p ++ d) x)

pub tail_four : {A : Type 0} (c l p d x : List A) → c ++ (l ++ (p ++ (d ++ x))) ≡ (c ++ (l ++ (p ++ d))) ++ x
tail_four c l p d x = ap (λ t. c ++ t) (tail_three l p d x) ∙ sym (append_assoc c (l ++ (p ++ d)) x)

-- ---- numbers

later : (n : ℕ) (ls : List Line) (l : Line) → line_numbers (n + 1) ls ++ line_numbers (n + 1 + length ls) (l ∷ []) ≡ line_numbers (n + 1) ls ++ line_numbers (n + suc (length ls)) (l ∷ [])
later n ls l = let same : n + 1 + length ls ≡ n + suc (length ls) = omega arith in ap (λ (k : ℕ). line_numbers (n + 1) ls ++ line_numbers k (l ∷ [])) same

numbers_push : (n : ℕ) (ls : List Line) (l : Line) → line_numbers n (ls ++ l ∷ []) ≡ line_numbers n ls ++ line_numbers (n + length ls) (l ∷ [])
numbers_push n [] l = let same : n ≡ n + 0 = omega arith in ap (λ (k : ℕ). line_numbers k (l ∷ [])) same
numbers_push n (lines.Hook h ∷ ls) l = ap (λ (t : List ℕ). n ∷ t) (numbers_push (n + 1) ls l ∙ later n ls l)
numbers_push n (lines.Command c ∷ ls) l = ap (λ (t : List ℕ). n ∷ t) (numbers_push (n + 1) ls l ∙ later n ls l)
numbers_push n (lines.Version ∷ ls) l = numbers_push (n + 1) ls l ∙ later n ls l
numbers_push n (lines.Map name k ∷ ls) l = numbers_push (n + 1) ls l ∙ later n ls l
numbers_push n (lines.Priv app ∷ ls) l = numbers_push (n + 1) ls l ∙ later n ls l
numbers_push n (lines.If iface name ∷ ls) l = numbers_push (n + 1) ls l ∙ later n ls l
numbers_push n (lines.Section ∷ ls) l = numbers_push (n + 1) ls l ∙ later n ls l
numbers_push n (lines.Cap bytes ∷ ls) l = numbers_push (n + 1) ls l ∙ later n ls l
numbers_push n (lines.Lane ∷ ls) l = numbers_push (n + 1) ls l ∙ later n ls l
numbers_push n (lines.Desk ∷ ls) l = numbers_push (n + 1) ls l ∙ later n ls l

pub numbers_more : (first number : ℕ) (ls new : List Line) (l : Line) (old numbers : List ℕ) → number ≡ first + length ls → new ≡ ls ++ l ∷ [] → old ≡ line_numbers first ls → numbers ≡ old ++ line_numbers number (l ∷ []) → numbers ≡ line_numbers first new
numbers_more first number ls new l old numbers at is was more =
    more ∙ ap (λ (t : List ℕ). t ++ line_numbers number (l ∷ [])) was ∙ ap (λ (k : ℕ). line_numbers first ls ++ line_numbers k (l ∷ [])) at ∙ sym (numbers_push first ls l) ∙ ap (line_numbers first) (sym is)

-- ---- a section that grows

pub ok_fact : {A E : Type 0} (r : Result A E) (P Q : Type 0) → OnOk r P → (P → Q) → OnOk r Q
ok_fact (Ok x) P Q p f = f p
ok_fact (Err e) P Q p f = tt

abbrev Lanes : Type 0
Lanes = List (List (ℕ × LaneLine))

abbrev Lane : Type 0
Lane = List (ℕ × LaneLine)

abbrev Desk : Type 0
Desk = List (ℕ × Command)

abbrev body : List Line → Lanes → Option Lane → Option Desk → List Line
body caps lanes lane desk = lines.Section ∷ (caps ++ (flat_map lane_lines lanes ++ (lane_part lane ++ desk_lines desk)))

abbrev numbers : Lanes → Option Lane → Option Desk → List ℕ
numbers lanes lane desk = flat_map numbers_of lanes ++ (lane_numbers lane ++ desk_numbers desk)

-- a section with a line more
pub draft_more : (old new : Draft) (number : ℕ) (l : Line) → IsDraft old → new.first ≡ old.first → number ≡ old.first + length (draft_lines old) → sum_of new.caps ≡ length new.capture.items
    → draft_lines new ≡ draft_lines old ++ l ∷ [] → draft_numbers new ≡ draft_numbers old ++ line_numbers number (l ∷ []) → IsDraft new
draft_more old new number l was first at captured is more = record {
  captured = captured;
  numbered = numbers_more old.first number (draft_lines old) (draft_lines new) l (draft_numbers old) (draft_numbers new) at is was.numbered more ∙ ap (λ (n : ℕ). line_numbers n (draft_lines new)) (sym first);
}

pub hook_lines : (caps : List Line) (lanes : Lanes) (old : Option Lane) (desk : Option Desk) (lane all : Lane) (number : ℕ) (h : LaneLine) → old ≡ Some lane → all ≡ lane ++ (number, h) ∷ [] → desk ≡ None
    → body caps lanes (Some all) desk ≡ body caps lanes old desk ++ lines.Hook h ∷ []
hook_lines caps lanes old desk lane all number h e f g =
    rw (e, f, g) (ap (λ (t : List Line). lines.Section ∷ (caps ++ (flat_map lane_lines lanes ++ t))) (append-nil (lane_lines (lane ++ (number, h) ∷ [])) ∙ lane_push lane (number, h)) ∙ ap (λ (t : List Line). lines.Section ∷ t) (tail_four caps (flat_map lane_lines lanes) (lane_lines lane) [] (lines.Hook h ∷ [])))

pub hook_numbers : (lanes : Lanes) (old : Option Lane) (desk : Option Desk) (lane all : Lane) (number : ℕ) (h : LaneLine) → old ≡ Some lane → all ≡ lane ++ (number, h) ∷ [] → desk ≡ None
    → numbers lanes (Some all) desk ≡ numbers lanes old desk ++ number ∷ []
hook_numbers lanes old desk lane all number h e f g =
    rw (e, f, g) (ap (λ (t : List ℕ). flat_map numbers_of lanes ++ t) (append-nil (numbers_of (lane ++ (number, h) ∷ [])) ∙ map-append (λ (k : ℕ × LaneLine). k.0) lane ((number, h) ∷ [])) ∙ tail_three (flat_map numbers_of lanes) (numbers_of lane) [] (number ∷ []))

pub command_lines : (caps : List Line) (lanes : Lanes) (lane : Option Lane) (old : Option Desk) (desk all : Desk) (number : ℕ) (c : Command) → old ≡ Some desk → all ≡ desk ++ (number, c) ∷ []
    → body caps lanes lane (Some all) ≡ body caps lanes lane old ++ lines.Command c ∷ []
command_lines caps lanes lane old desk all number c e f =
    rw (e, f) (ap (λ (t : List Line). lines.Section ∷ (caps ++ (flat_map lane_lines lanes ++ (lane_part lane ++ (lines.Desk ∷ t))))) (map-append (λ (k : ℕ × Command). lines.Command k.1) desk ((number, c) ∷ [])) ∙ ap (λ (t : List Line). lines.Section ∷ t) (tail_four caps (flat_map lane_lines lanes) (lane_part lane) (desk_lines (Some desk)) (lines.Command c ∷ [])))

pub command_numbers : (lanes : Lanes) (lane : Option Lane) (old : Option Desk) (desk all : Desk) (number : ℕ) (c : Command) → old ≡ Some desk → all ≡ desk ++ (number, c) ∷ []
    → numbers lanes lane (Some all) ≡ numbers lanes lane old ++ number ∷ []
command_numbers lanes lane old desk all number c e f =
    rw (e, f) (ap (λ (t : List ℕ). flat_map numbers_of lanes ++ (lane_numbers lane ++ t)) (map-append (λ (k : ℕ × Command). k.0) desk ((number, c) ∷ [])) ∙ tail_three (flat_map numbers_of lanes) (lane_numbers lane) (desk_numbers (Some desk)) (number ∷ []))

pub desk_begun_lines : (caps : List Line) (lanes : Lanes) (lane : Option Lane) (old : Option Desk) (new : Desk) → old ≡ None → new ≡ [] → body caps lanes lane (Some new) ≡ body caps lanes lane old ++ lines.Desk ∷ []
desk_begun_lines caps lanes lane old new e f = rw (e, f) (ap (λ (t : List Line). lines.Section ∷ t) (tail_four caps (flat_map lane_lines lanes) (lane_part lane) [] (lines.Desk ∷ [])))

pub desk_begun_numbers : (lanes : Lanes) (lane : Option Lane) (old : Option Desk) (new : Desk) → old ≡ None → new ≡ [] → numbers lanes lane (Some new) ≡ numbers lanes lane old ++ []
desk_begun_numbers lanes lane old new e f = rw (e, f) (sym (append-nil (numbers lanes lane None)))

pub lane_begun_lines : (caps : List Line) (lanes all : Lanes) (old new : Option Lane) (desk : Option Desk) (lane : Lane) → old ≡ Some lane → new ≡ Some [] → desk ≡ None → all ≡ lanes ++ lane ∷ []
    → body caps all new desk ≡ body caps lanes old desk ++ lines.Lane ∷ []
lane_begun_lines caps lanes all old new desk lane e f g is =
    rw (e, f, g, is) (ap (λ (t : List Line). lines.Section ∷ (caps ++ t)) (ap (λ (t : List Line). t ++ lines.Lane ∷ []) (flat_push lane_lines lanes lane) ∙ append_assoc (flat_map lane_lines lanes) (lane_lines lane) (lines.Lane ∷ []))
    ∙ ap (λ (t : List Line). lines.Section ∷ t) (tail_four caps (flat_map lane_lines lanes) (lane_lines lane) [] (lines.Lane ∷ [])))

pub lane_begun_numbers : (lanes all : Lanes) (old new : Option Lane) (desk : Option Desk) (lane : Lane) → old ≡ Some lane → new ≡ Some [] → desk ≡ None → all ≡ lanes ++ lane ∷ []
    → numbers all new desk ≡ numbers lanes old desk ++ []
lane_begun_numbers lanes all old new desk lane e f g is =
    rw (e, f, g, is) (append-nil (flat_map numbers_of (lanes ++ lane ∷ [])) ∙ flat_push numbers_of lanes lane ∙ ap (λ (t : List ℕ). flat_map numbers_of lanes ++ t) (sym (append-nil (numbers_of lane))) ∙ sym (append-nil (flat_map numbers_of lanes ++ (numbers_of lane ++ []))))

pub first_lane_lines : (caps : List Line) (lanes : Lanes) (old new : Option Lane) (desk : Option Desk) → old ≡ None → new ≡ Some [] → desk ≡ None → body caps lanes new desk ≡ body caps lanes old desk ++ lines.Lane ∷ []
first_lane_lines caps lanes old new desk e f g = rw (e, f, g) (ap (λ (t : List Line). lines.Section ∷ t) (tail_four caps (flat_map lane_lines lanes) [] [] (lines.Lane ∷ [])))

pub first_lane_numbers : (lanes : Lanes) (old new : Option Lane) (desk : Option Desk) → old ≡ None → new ≡ Some [] → desk ≡ None → numbers lanes new desk ≡ numbers lanes old desk ++ []
first_lane_numbers lanes old new desk e f g = rw (e, f, g) (sym (append-nil (flat_map numbers_of lanes ++ [])))

pub cap_added_lines : (d : Draft) (caps capture bytes : List ℕ) (n : ℕ) → IsBare d → sum_of d.caps ≡ length d.capture.items → caps ≡ d.caps ++ n ∷ [] → capture ≡ d.capture.items ++ bytes → n ≡ length bytes
    → body (cap_lines caps capture) d.lanes d.lane d.desk ≡ draft_lines d ++ lines.Cap bytes ∷ []
cap_added_lines d caps capture bytes n bare captured e f is =
    let old = cap_lines d.caps d.capture.items in
    let grown : cap_lines caps capture ≡ old ++ lines.Cap bytes ∷ [] =
    ap (λ (c : List ℕ). cap_lines c capture) e ∙ ap (cap_lines (d.caps ++ n ∷ [])) f ∙ caps_push d.caps d.capture.items bytes n captured is in
    let nothing : flat_map lane_lines d.lanes ++ (lane_part d.lane ++ desk_lines d.desk) ≡ [] =
    ap (λ (ls : Lanes). flat_map lane_lines ls ++ (lane_part d.lane ++ desk_lines d.desk)) bare.no_lanes ∙ ap (λ (l : Option Lane). lane_part l ++ desk_lines d.desk) bare.no_lane ∙ ap desk_lines bare.no_desk in
    ap (λ (t : List Line). lines.Section ∷ t) (
    ap (λ (t : List Line). cap_lines caps capture ++ t) nothing ∙ append-nil (cap_lines caps capture) ∙ grown ∙ ap (λ (t : List Line). t ++ lines.Cap bytes ∷ []) (sym (append-nil old) ∙ ap (λ (t : List Line). old ++ t) (sym nothing))
    )

pub empty_lane : (new : Option Lane) (empty : Lane) → new ≡ Some empty → empty ≡ [] → new ≡ Some []
empty_lane new empty e f = e ∙ ap (λ (l : Lane). Some l) f

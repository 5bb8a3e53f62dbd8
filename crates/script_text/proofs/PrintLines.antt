-- The texts of lines one after another.
use Rattle.std.proofs.Common.{◌≡◌, ℕ, zero, suc, ◌+◌, List, [], ◌∷◌, ◌++◌, map, take, refl, sym, ap, ◌∙◌, append_assoc, arith}
use Rattle.std.specs.Prelude.{Option, Some, None, Result, Ok, Err, OnOk, codes, decimal, slice_get}
use Rattle.script_text.proofs.PartLines.{flat_push}
use Rattle.std.specs.List.{flat_map}
use Rattle.acct_base.specs.Text.{line_text}
use Rattle.desk_core.specs.declared.command.Command.{Command}
use Rattle.script_text.specs.declared.map_name.MapName.{MapName}
use Rattle.script_text.specs.declared.line.Line.{Line}
use Rattle.script_text.specs.declared.line.Line.TheVariants as lines
use Rattle.script_text.specs.declared.header.Header.{Header}
use Rattle.script_text.specs.declared.section.Section.{Section}
use Rattle.script_text.specs.Lines.{spelled, texts, ascending_uids, LaneLine}
use Rattle.script_text.specs.Parts.{lines_text, header_text, section_text, cap_lines, lane_lines, desk_lines}
use Rattle.script_text.specs.Prints.{uid_text, map_text, priv_text, name_text, hook_text, lane_text, desk_text}

-- ---- uids

uids_line : (w us : List ℕ) → line_text (w ∷ map decimal us) ≡ w ++ (flat_map uid_text us ++ 10 ∷ [])
uids_line w [] = refl
uids_line w (u ∷ us) =
    ap (λ (t : List ℕ). w ++ 32 ∷ t) (uids_line (decimal u) us) ∙ ap (λ (t : List ℕ). w ++ t) (sym (append_assoc (uid_text u) (flat_map uid_text us) (10 ∷ [])))

pub ascending_texts : (n : ℕ) (us : List ℕ) → texts (ascending_uids n us) ≡ map decimal us
ascending_texts n [] = refl
ascending_texts n (u ∷ us) = ap (λ (t : List (List ℕ)). decimal u ∷ t) (ascending_texts (u + 1) us)

pub replace_put : (old one two three four head chain us : List ℕ) → one ≡ old ++ head → two ≡ one ++ chain → three ≡ two ++ flat_map uid_text us → four ≡ three ++ 10 ∷ [] → four ≡ old ++ (head ++ line_text (chain ∷ map decimal us))
replace_put old one two three four head chain us e f g h =
    h ∙ ap (λ (t : List ℕ). t ++ 10 ∷ []) (g ∙ ap (λ (t : List ℕ). t ++ flat_map uid_text us) (f ∙ ap (λ (t : List ℕ). t ++ chain) e))
    ∙ append_assoc ((old ++ head) ++ chain) (flat_map uid_text us) (10 ∷ []) ∙ append_assoc (old ++ head) chain (flat_map uid_text us ++ 10 ∷ []) ∙ append_assoc old head (chain ++ (flat_map uid_text us ++ 10 ∷ []))
    ∙ ap (λ (t : List ℕ). old ++ (head ++ t)) (sym (uids_line chain us))

-- ---- lists of lines

texts_append : (xs ys : List Line) → lines_text (xs ++ ys) ≡ lines_text xs ++ lines_text ys
texts_append [] ys = refl
texts_append (x ∷ xs) ys = ap (λ (t : List ℕ). spelled x ++ t) (texts_append xs ys) ∙ sym (append_assoc (spelled x) (lines_text xs) (lines_text ys))

texts_map : {A : Type 0} (f : A → Line) (xs : List A) → lines_text (map f xs) ≡ flat_map (λ x. spelled (f x)) xs
texts_map f [] = refl
texts_map f (x ∷ xs) = ap (λ (t : List ℕ). spelled (f x) ++ t) (texts_map f xs)

pub lane_put : (lane : List (ℕ × LaneLine)) → lane_text lane ≡ codes "lane\n" ++ flat_map hook_text lane
lane_put lane = ap (λ (t : List ℕ). codes "lane\n" ++ t) (texts_map (λ (h : ℕ × LaneLine). lines.Hook h.1) lane)

lanes_text : (lanes : List (List (ℕ × LaneLine))) → lines_text (flat_map lane_lines lanes) ≡ flat_map lane_text lanes
lanes_text [] = refl
lanes_text (l ∷ ls) = texts_append (lane_lines l) (flat_map lane_lines ls) ∙ ap (λ (t : List ℕ). lane_text l ++ t) (lanes_text ls)

desk_put : (desk : Option (List (ℕ × Command))) → lines_text (desk_lines desk) ≡ desk_text desk
desk_put None = refl
desk_put (Some commands) = ap (λ (t : List ℕ). codes "desk\n" ++ t) (texts_map (λ (c : ℕ × Command). lines.Command c.1) commands)

put_four : (a b c d one two three four : List ℕ) → one ≡ a → two ≡ one ++ b → three ≡ two ++ c → four ≡ three ++ d → four ≡ a ++ (b ++ (c ++ d))
put_four a b c d one two three four e f g h =
    h ∙ ap (λ (t : List ℕ). t ++ d) (g ∙ ap (λ (t : List ℕ). t ++ c) (f ∙ ap (λ (t : List ℕ). t ++ b) e)) ∙ append_assoc (a ++ b) c d ∙ append_assoc a b (c ++ d)

pub header_put : (h : Header) (one two three four : List ℕ) → one ≡ codes "netacct 1\n" → two ≡ one ++ flat_map map_text h.maps → three ≡ two ++ flat_map priv_text h.privileged → four ≡ three ++ flat_map name_text h.names → four ≡ header_text h
header_put h one two three four e f g k =
    let maps = map (λ (m : MapName × ℕ). lines.Map m.0 m.1) h.maps in
    let privs = map (λ (app : ℕ). lines.Priv app) h.privileged in
    let names = map (λ (n : ℕ × List ℕ). lines.If n.0 n.1) h.names in
    let first = texts_map (λ (m : MapName × ℕ). lines.Map m.0 m.1) h.maps in
    let second = texts_map (λ (app : ℕ). lines.Priv app) h.privileged in
    let third = texts_map (λ (n : ℕ × List ℕ). lines.If n.0 n.1) h.names in
    put_four (codes "netacct 1\n") (flat_map map_text h.maps) (flat_map priv_text h.privileged) (flat_map name_text h.names) one two three four e f g k
    ∙ sym (
    ap (λ (t : List ℕ). codes "netacct 1\n" ++ t) (
    texts_append maps (privs ++ names) ∙ ap (λ (t : List ℕ). lines_text maps ++ t) (texts_append privs names)
    ∙ ap (λ (t : List ℕ). t ++ (lines_text privs ++ lines_text names)) first ∙ ap (λ (t : List ℕ). flat_map map_text h.maps ++ (t ++ lines_text names)) second
    ∙ ap (λ (t : List ℕ). flat_map map_text h.maps ++ (flat_map priv_text h.privileged ++ t)) third
    )
    )

pub section_put : (s : Section) (one two three four : List ℕ) → one ≡ codes "section\n" → two ≡ one ++ lines_text (cap_lines s.caps s.capture) → three ≡ two ++ flat_map lane_text s.lanes → four ≡ three ++ desk_text s.desk → four ≡ section_text s
section_put s one two three four e f g k =
    let caps = cap_lines s.caps s.capture in
    let lanes = flat_map lane_lines s.lanes in
    put_four (codes "section\n") (lines_text caps) (flat_map lane_text s.lanes) (desk_text s.desk) one two three four e f g k
    ∙ sym (
    ap (λ (t : List ℕ). codes "section\n" ++ t) (
    texts_append caps (lanes ++ desk_lines s.desk) ∙ ap (λ (t : List ℕ). lines_text caps ++ t) (texts_append lanes (desk_lines s.desk))
    ∙ ap (λ (t : List ℕ). lines_text caps ++ (t ++ lines_text (desk_lines s.desk))) (lanes_text s.lanes) ∙ ap (λ (t : List ℕ). lines_text caps ++ (flat_map lane_text s.lanes ++ t)) (desk_put s.desk)
    )
    )

-- ---- a hook line more

take_get : {A : Type 0} (xs : List A) (i : ℕ) (x : A) → Some x ≡ slice_get xs i → take (i + 1) xs ≡ take i xs ++ x ∷ []
take_get [] i x e = absurd cc
take_get (y ∷ ys) zero x e = ap (λ t. t ∷ []) (let same : y ≡ x = cc in same)
take_get (y ∷ ys) (suc i) x e =
    let next : suc i + 1 ≡ suc (i + 1) = omega arith in
    ap (λ (k : ℕ). take k (y ∷ ys)) next ∙ ap (λ t. y ∷ t) (take_get ys i x e)

pub hook_more : (lane : List (ℕ × LaneLine)) (place : ℕ) (item : ℕ × LaneLine) (initial old new : List ℕ) → Some item ≡ slice_get lane place → old ≡ initial ++ flat_map hook_text (take place lane) → new ≡ old ++ hook_text item
    → new ≡ initial ++ flat_map hook_text (take (place + 1) lane)
hook_more lane place item initial old new e f g =
    g ∙ ap (λ (t : List ℕ). t ++ hook_text item) f ∙ append_assoc initial (flat_map hook_text (take place lane)) (hook_text item)
    ∙ ap (λ (t : List ℕ). initial ++ t) (sym (ap (flat_map hook_text) (take_get lane place item e) ∙ flat_push hook_text (take place lane) item))

pub ok_text : {E : Type 0} (r : Result (Unit {0}) E) (new a b : List ℕ) → OnOk r (new ≡ a) → a ≡ b → OnOk r (new ≡ b)
ok_text (Ok x) new a b h e = h ∙ e
ok_text (Err f) new a b h e = tt

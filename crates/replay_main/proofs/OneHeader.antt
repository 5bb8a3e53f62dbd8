-- A header is told by its lines.
use Rattle.std.proofs.Common.{◌≡◌, ℕ, List, [], ◌∷◌, ◌++◌, map, refl, sym, ap, ◌∙◌}
use Rattle.script_text.specs.declared.map_name.MapName.{MapName}
use Rattle.script_text.specs.declared.line.Line.{Line}
use Rattle.script_text.specs.declared.line.Line.TheVariants as lines
use Rattle.script_text.specs.declared.header.Header.{Header}
use Rattle.script_text.specs.Parts.{header_lines, IsHeader, default_sizes, with_sizes}
use Rattle.replay_main.proofs.OneSection.{first_same}

-- the lines begin with none of this kind
abbrev BeginsWithNone : {A : Type 0} → (A → Line) → List Line → Type 0
BeginsWithNone {A} line ls = (x : A) (more : List Line) → ls ≡ line x ∷ more → ⊥

module _ {A : Type 0} (line : A → Line) (told : (x y : A) → line x ≡ line y → x ≡ y) where
  kind_same : (xs ys : List A) (ks js : List Line) → BeginsWithNone line ks → BeginsWithNone line js → map line xs ++ ks ≡ map line ys ++ js → (xs ≡ ys) × (ks ≡ js)
  kind_same [] [] ks js none neither e = (refl, e)
  kind_same [] (y ∷ ys) ks js none neither e = absurd (none y (map line ys ++ js) e)
  kind_same (x ∷ xs) [] ks js none neither e = absurd (neither x (map line xs ++ ks) (sym e))
  kind_same (x ∷ xs) (y ∷ ys) ks js none neither e =
      let here = first_same (line x) (line y) (map line xs ++ ks) (map line ys ++ js) e in
      let rest = kind_same xs ys ks js none neither here.1 in
      ((λ i. told x y here.0 i ∷ rest.0 i), rest.1)

map_line : MapName × ℕ → Line
map_line m = lines.Map m.0 m.1

priv_line : ℕ → Line
priv_line app = lines.Priv app

name_line : ℕ × List ℕ → Line
name_line n = lines.If n.0 n.1

map_told : (m n : MapName × ℕ) → map_line m ≡ map_line n → m ≡ n
unfolding map_line
map_told m n e =
    let name : m.0 ≡ n.0 = cc in
    let size : m.1 ≡ n.1 = cc in
    λ i. (name i, size i)

priv_told : (a b : ℕ) → priv_line a ≡ priv_line b → a ≡ b
unfolding priv_line
priv_told a b e = cc

name_told : (m n : ℕ × List ℕ) → name_line m ≡ name_line n → m ≡ n
unfolding name_line
name_told m n e =
    let iface : m.0 ≡ n.0 = cc in
    let name : m.1 ≡ n.1 = cc in
    λ i. (iface i, name i)

no_map : (ps : List ℕ) (ns : List (ℕ × List ℕ)) → BeginsWithNone map_line (map priv_line ps ++ map name_line ns)
unfolding map_line priv_line name_line
no_map [] [] m more e = absurd cc
no_map [] (n ∷ ns) m more e = absurd (let z : lines.If n.0 n.1 ≡ lines.Map m.0 m.1 = (first_same _ _ _ _ e).0 in cc)
no_map (p ∷ ps) ns m more e = absurd (let z : lines.Priv p ≡ lines.Map m.0 m.1 = (first_same _ _ _ _ e).0 in cc)

no_priv : (ns : List (ℕ × List ℕ)) → BeginsWithNone priv_line (map name_line ns)
unfolding priv_line name_line
no_priv [] app more e = absurd cc
no_priv (n ∷ ns) app more e = absurd (let z : lines.If n.0 n.1 ≡ lines.Priv app = (first_same _ _ _ _ e).0 in cc)

names_same : (ms ns : List (ℕ × List ℕ)) → map name_line ms ≡ map name_line ns → ms ≡ ns
unfolding name_line
names_same [] [] e = refl
names_same [] (n ∷ ns) e = absurd cc
names_same (m ∷ ms) [] e = absurd cc
names_same (m ∷ ms) (n ∷ ns) e =
    let here = first_same (name_line m) (name_line n) (map name_line ms) (map name_line ns) e in
    let rest = names_same ms ns here.1 in
    λ i. name_told m n here.0 i ∷ rest i

pub header_same : (h g : Header) → IsHeader h → IsHeader g → header_lines h ≡ header_lines g → h ≡ g
unfolding map_line priv_line name_line
header_same h g p q is =
    let maps = kind_same map_line map_told h.maps g.maps (map priv_line h.privileged ++ map name_line h.names) (map priv_line g.privileged ++ map name_line g.names) (no_map h.privileged h.names) (no_map g.privileged g.names) (first_same _ _ _ _ is).1 in
    let privileged = kind_same priv_line priv_told h.privileged g.privileged (map name_line h.names) (map name_line g.names) (no_priv h.names) (no_priv g.names) maps.1 in
    let names = names_same h.names g.names privileged.1 in
    let sizes : h.sizes ≡ g.sizes = p.sizes_are ∙ ap (with_sizes default_sizes) maps.0 ∙ sym q.sizes_are in
    λ i. record { sizes = sizes i; maps = maps.0 i; privileged = privileged.0 i; names = names i }

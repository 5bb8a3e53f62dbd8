-- Short lines keep the limits, where the tally behind them does.
use Rattle.std.proofs.Common.{◌≡◌, ℕ, ◌+◌, ◌*◌, ◌≤◌, Bool, true, false, List, [], ◌∷◌, ◌++◌, length, length-append, refl, sym, subst, ◌∙◌, arith, None}
use Rattle.std.specs.Prelude.{◌==◌, if◌then◌else◌, nat_lt}
use Rattle.std.specs.List.{AllByRecursion}
use Rattle.std.proofs.lemmas.Bool.{le-ltb}
use Rattle.script_text.specs.declared.line.Line.{Line}
use Rattle.script_text.specs.declared.line.Line.TheVariants as lines
use Rattle.script_text.specs.declared.place.Place.{Place}
use Rattle.script_text.specs.declared.limits.Tally.{Tally}
use Rattle.script_text.specs.Lines.{spelled}
use Rattle.script_text.specs.Parts.{lines_text}
use Rattle.script_text.specs.Order.{place_of, place_behind, names_in, follows, is_fresh, InOrder}
use Rattle.script_text.specs.Limits.{first_line, before_feed, most_bytes, passed_by_bytes, passed, added, tallied, KeepLimits, IsSmall}
use Rattle.script_text.proofs.Orders.{place_push, tallied_bytes}
use Rattle.replay_main.proofs.GeneratedLines.{IsShort}

-- ---- limits

first_short : (bytes : List ℕ) → length (first_line bytes) ≤ length bytes
first_short [] = omega arith
first_short (b ∷ bs) =
    let rest = first_short bs in
    elim (b == 10) as (λ c. length (b ∷ (if c then [] else first_line bs)) ≤ length (b ∷ bs)) [ true ↦ omega arith | false ↦ omega (arith, rest) ]

before_short : (bytes : List ℕ) → length (before_feed bytes) ≤ length bytes
before_short [] = omega arith
before_short (b ∷ bs) =
    let rest = before_short bs in
    elim (b == 10) as (λ c. length (if c then [] else b ∷ before_feed bs) ≤ length (b ∷ bs)) [ true ↦ omega arith | false ↦ omega (arith, rest) ]

not_above : (a b : ℕ) → b ≤ a → nat_lt a b ≡ false
not_above a b le = le-ltb a b le

skip : {X : Type 0} (b : Bool) (x y z : X) → b ≡ false → y ≡ z → (if b then x else y) ≡ z
skip true x y z e same = absurd cc
skip false x y z e same = same

small_one : (t : Tally) (l : Line) → IsSmall (added t l) → IsSmall t
small_one t lines.Version s = record { bytes_fit = omega (arith, s.bytes_fit); privs_fit = omega (arith, s.privs_fit); ifs_fit = omega (arith, s.ifs_fit); sections_fit = omega (arith, s.sections_fit); capture_fits = omega (arith, s.capture_fits); lanes_fit = omega (arith, s.lanes_fit); hooks_fit = omega (arith, s.hooks_fit); desk_lines_fit = omega (arith, s.desk_lines_fit); collections_fit = omega (arith, s.collections_fit) }
small_one t (lines.Map name n) s = record { bytes_fit = omega (arith, s.bytes_fit); privs_fit = omega (arith, s.privs_fit); ifs_fit = omega (arith, s.ifs_fit); sections_fit = omega (arith, s.sections_fit); capture_fits = omega (arith, s.capture_fits); lanes_fit = omega (arith, s.lanes_fit); hooks_fit = omega (arith, s.hooks_fit); desk_lines_fit = omega (arith, s.desk_lines_fit); collections_fit = omega (arith, s.collections_fit) }
small_one t (lines.Priv app) s = record { bytes_fit = omega (arith, s.bytes_fit); privs_fit = omega (arith, s.privs_fit); ifs_fit = omega (arith, s.ifs_fit); sections_fit = omega (arith, s.sections_fit); capture_fits = omega (arith, s.capture_fits); lanes_fit = omega (arith, s.lanes_fit); hooks_fit = omega (arith, s.hooks_fit); desk_lines_fit = omega (arith, s.desk_lines_fit); collections_fit = omega (arith, s.collections_fit) }
small_one t (lines.If iface name) s = record { bytes_fit = omega (arith, s.bytes_fit); privs_fit = omega (arith, s.privs_fit); ifs_fit = omega (arith, s.ifs_fit); sections_fit = omega (arith, s.sections_fit); capture_fits = omega (arith, s.capture_fits); lanes_fit = omega (arith, s.lanes_fit); hooks_fit = omega (arith, s.hooks_fit); desk_lines_fit = omega (arith, s.desk_lines_fit); collections_fit = omega (arith, s.collections_fit) }
small_one t lines.Section s = record { bytes_fit = omega (arith, s.bytes_fit); privs_fit = omega (arith, s.privs_fit); ifs_fit = omega (arith, s.ifs_fit); sections_fit = omega (arith, s.sections_fit); capture_fits = omega (arith, s.capture_fits); lanes_fit = omega (arith, s.lanes_fit); hooks_fit = omega (arith, s.hooks_fit); desk_lines_fit = omega (arith, s.desk_lines_fit); collections_fit = omega (arith, s.collections_fit) }
small_one t (lines.Cap bytes) s = record { bytes_fit = omega (arith, s.bytes_fit); privs_fit = omega (arith, s.privs_fit); ifs_fit = omega (arith, s.ifs_fit); sections_fit = omega (arith, s.sections_fit); capture_fits = omega (arith, s.capture_fits); lanes_fit = omega (arith, s.lanes_fit); hooks_fit = omega (arith, s.hooks_fit); desk_lines_fit = omega (arith, s.desk_lines_fit); collections_fit = omega (arith, s.collections_fit) }
small_one t lines.Lane s = record { bytes_fit = omega (arith, s.bytes_fit); privs_fit = omega (arith, s.privs_fit); ifs_fit = omega (arith, s.ifs_fit); sections_fit = omega (arith, s.sections_fit); capture_fits = omega (arith, s.capture_fits); lanes_fit = omega (arith, s.lanes_fit); hooks_fit = omega (arith, s.hooks_fit); desk_lines_fit = omega (arith, s.desk_lines_fit); collections_fit = omega (arith, s.collections_fit) }
small_one t (lines.Hook h) s = record { bytes_fit = omega (arith, s.bytes_fit); privs_fit = omega (arith, s.privs_fit); ifs_fit = omega (arith, s.ifs_fit); sections_fit = omega (arith, s.sections_fit); capture_fits = omega (arith, s.capture_fits); lanes_fit = omega (arith, s.lanes_fit); hooks_fit = omega (arith, s.hooks_fit); desk_lines_fit = omega (arith, s.desk_lines_fit); collections_fit = omega (arith, s.collections_fit) }
small_one t lines.Desk s = record { bytes_fit = omega (arith, s.bytes_fit); privs_fit = omega (arith, s.privs_fit); ifs_fit = omega (arith, s.ifs_fit); sections_fit = omega (arith, s.sections_fit); capture_fits = omega (arith, s.capture_fits); lanes_fit = omega (arith, s.lanes_fit); hooks_fit = omega (arith, s.hooks_fit); desk_lines_fit = omega (arith, s.desk_lines_fit); collections_fit = omega (arith, s.collections_fit) }
small_one t (lines.Command c) s = record { bytes_fit = omega (arith, s.bytes_fit); privs_fit = omega (arith, s.privs_fit); ifs_fit = omega (arith, s.ifs_fit); sections_fit = omega (arith, s.sections_fit); capture_fits = omega (arith, s.capture_fits); lanes_fit = omega (arith, s.lanes_fit); hooks_fit = omega (arith, s.hooks_fit); desk_lines_fit = omega (arith, s.desk_lines_fit); collections_fit = omega (arith, s.collections_fit) }

-- a tally only grows
small_front : (t : Tally) (ls : List Line) → IsSmall (tallied t ls) → IsSmall t
small_front t [] s = s
small_front t (l ∷ ls) s = small_one t l (small_front (added t l) ls s)

keeps_bytes : (t : Tally) (l : Line) → IsShort l → IsSmall (added t l) → passed_by_bytes t (spelled l) ≡ None
keeps_bytes t l short s =
    let all : (added t l).bytes ≡ t.bytes + length (lines_text (l ∷ [])) = tallied_bytes t (l ∷ []) in
    let long = length-append (spelled l) [] in
    let first = first_short (spelled l) in
    let before = before_short (spelled l) in
    let few = short.bytes in
    let fit = s.bytes_fit in
    skip _ _ _ _ (not_above most_bytes (t.bytes + length (first_line (spelled l))) (omega (arith, all, long, first, fit)))
    (skip _ _ _ _ (not_above 65536 (length (before_feed (spelled l))) (omega (arith, before, few))) refl)

keeps_counts : (t : Tally) (l : Line) → IsShort l → IsSmall t → passed t l ≡ None
keeps_counts t l short s =
    skip _ _ _ _ (not_above 64 t.privs s.privs_fit)
    (skip _ _ _ _ (not_above 1000 t.ifs s.ifs_fit)
    (skip _ _ _ _ (not_above 4096 t.sections s.sections_fit)
    (skip _ _ _ _ (not_above 1048576 t.capture s.capture_fits)
    (skip _ _ _ _ (not_above 16 t.lanes s.lanes_fit)
    (skip _ _ _ _ (not_above 1048576 t.hooks s.hooks_fit)
    (skip _ _ _ _ (not_above 65536 t.desk_lines s.desk_lines_fit)
    (skip _ _ _ _ (not_above 1024 t.collections s.collections_fit)
    (skip _ _ _ _ (not_above 2000 _ short.uids) refl))))))))

pub keep_limits : (t : Tally) (ls : List Line) → AllByRecursion IsShort ls → IsSmall (tallied t ls) → KeepLimits t ls
keep_limits t [] h s = tt
keep_limits t (l ∷ ls) h s =
    let here = small_front (added t l) ls s in
    (keeps_bytes t l h.0 here, (keeps_counts (added t l) l h.0 here, keep_limits (added t l) ls h.1 s))

pub lines_short : (ls : List Line) → AllByRecursion IsShort ls → length (lines_text ls) ≤ 100 * length ls
lines_short [] h = omega arith
lines_short (l ∷ ls) h =
    let here = h.0.bytes in
    omega (arith, length-append (spelled l) (lines_text ls), here, lines_short ls h.1)

-- ---- what lines count for, beside their bytes

-- the tally has so many more sections, lanes, hook lines, desk lines and collections
pub record Grows (t u : Tally) (sections lanes hooks desk_lines collections : ℕ) : Type 0 where
  pub privs : u.privs ≡ t.privs
  pub ifs : u.ifs ≡ t.ifs
  pub capture : u.capture ≡ t.capture
  pub sections_are : u.sections ≡ t.sections + sections
  pub lanes_are : u.lanes ≡ t.lanes + lanes
  pub hooks_are : u.hooks ≡ t.hooks + hooks
  pub desk_lines_are : u.desk_lines ≡ t.desk_lines + desk_lines
  pub collections_are : u.collections ≡ t.collections + collections

pub grows_then : (t u v : Tally) (s l h d c m n o p q : ℕ) → Grows t u s l h d c → Grows u v m n o p q → Grows t v (s + m) (l + n) (h + o) (d + p) (c + q)
grows_then t u v s l h d c m n o p q g k = record {
  privs = k.privs ∙ g.privs;
  ifs = k.ifs ∙ g.ifs;
  capture = k.capture ∙ g.capture;
  sections_are = omega (arith, g.sections_are, k.sections_are);
  lanes_are = omega (arith, g.lanes_are, k.lanes_are);
  hooks_are = omega (arith, g.hooks_are, k.hooks_are);
  desk_lines_are = omega (arith, g.desk_lines_are, k.desk_lines_are);
  collections_are = omega (arith, g.collections_are, k.collections_are);
}

pub tallied_then : (t : Tally) (ls ms : List Line) → tallied t (ls ++ ms) ≡ tallied (tallied t ls) ms
tallied_then t [] ms = refl
tallied_then t (l ∷ ls) ms = tallied_then (added t l) ls ms

-- ---- order

-- each line may stand behind the one before it, and gives no name that another gave
abbrev pub Follow : Place → List Line → Type 0
Follow p [] = Unit {0}
Follow p (l ∷ ls) = (follows p l ≡ true) × ((names : List (List ℕ)) → is_fresh names l ≡ true) × Follow (place_of l) ls

pub follow_order : (from : Place) (front ls : List Line) → Follow (place_behind from front) ls → InOrder from front ls
follow_order from front [] h = tt
follow_order from front (l ∷ ls) h = (
  record { follows_is = h.0; fresh_is = h.1 (names_in front) },
  follow_order from (front ++ l ∷ []) ls (subst (λ (p : Place). Follow p ls) (sym (place_push from front l)) h.2),
)

-- ---- facts of each line

pub all_then : (P : Line → Type 0) (ls ms : List Line) → AllByRecursion P ls → AllByRecursion P ms → AllByRecursion P (ls ++ ms)
all_then P [] ms h k = k
all_then P (l ∷ ls) ms h k = (h.0, all_then P ls ms h.1 k)

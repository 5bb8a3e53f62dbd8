-- Lines one after another: their order, their limits, and one line more.
use Rattle.std.proofs.Common.{◌≡◌, ℕ, ◌+◌, ◌<◌, ◌≤◌, List, [], ◌∷◌, ◌++◌, length, refl, sym, ap, subst, ◌∙◌, append_assoc, arith, length-append}
use Rattle.std.specs.Prelude.{None}
use Rattle.std.specs.List.{AllByRecursion}
use Rattle.script_text.specs.declared.line.Line.{Line}
use Rattle.script_text.specs.declared.line.Line.TheVariants as lines
use Rattle.script_text.specs.declared.place.Place.{Place}
use Rattle.script_text.specs.declared.limits.Tally.{Tally}
use Rattle.script_text.specs.declared.limits.Counts.{Counts}
use Rattle.script_text.specs.declared.reader.Reader.{Reader}
use Rattle.script_text.specs.Lines.{IsLine, spelled}
use Rattle.script_text.specs.Parts.{lines_text}
use Rattle.script_text.specs.Order.{place_of, place_behind, names_in, Stands, MayStand, InOrder}
use Rattle.script_text.specs.Limits.{passed_by_bytes, passed, added, tallied, KeepLimits, IsSmall, IsWithinLimits, counts_of, tally_before}
use Rattle.script_text.specs.Faults.{IsNextPart, FailsAt}
use Rattle.script_text.specs.Drafts.{IsRead, IsReadTo, Takes, second_of}
use Rattle.std.proofs.lemmas.List.{append-nil}
use Rattle.script_text.proofs.Lines.{bytes_same, line_then, bare}

pub fits_push : (ls : List Line) (l : Line) → AllByRecursion IsLine ls → IsLine l → AllByRecursion IsLine (ls ++ l ∷ [])
fits_push [] l fits ok = (ok, tt)
fits_push (m ∷ ls) l fits ok = (fits.0, fits_push ls l fits.1 ok)

pub order_push : (from : Place) (front ls : List Line) (l : Line) → InOrder from front ls → MayStand from (front ++ ls) l → InOrder from front (ls ++ l ∷ [])
order_push from front [] l order may = (subst (λ (f : List Line). MayStand from f l) (append_nil front) may, tt)
  where
    append_nil : (f : List Line) → f ++ [] ≡ f
    append_nil [] = refl
    append_nil (x ∷ xs) = ap (λ (t : List Line). x ∷ t) (append_nil xs)
order_push from front (m ∷ ls) l order may =
    (order.0, order_push from (front ++ m ∷ []) ls l order.1 (subst (λ (f : List Line). MayStand from f l) (sym (append_assoc front (m ∷ []) ls)) may))

pub tally_push : (t : Tally) (ls : List Line) (l : Line) → tallied t (ls ++ l ∷ []) ≡ added (tallied t ls) l
tally_push t [] l = refl
tally_push t (m ∷ ls) l = tally_push (added t m) ls l

pub limits_push : (t : Tally) (ls : List Line) (l : Line) → KeepLimits t ls → passed_by_bytes (tallied t ls) (spelled l) ≡ None → passed (added (tallied t ls) l) l ≡ None → KeepLimits t (ls ++ l ∷ [])
limits_push t [] l keep bytes kept = (bytes, (kept, tt))
limits_push t (m ∷ ls) l keep bytes kept = (keep.0, (keep.1.0, limits_push (added t m) ls l keep.1.1 bytes kept))

pub text_push : (ls : List Line) (l : Line) (rest : List ℕ) → lines_text (ls ++ l ∷ []) ++ rest ≡ lines_text ls ++ (spelled l ++ rest)
text_push [] l rest = ap (λ (t : List ℕ). t ++ rest) (append_nil (spelled l))
  where
    append_nil : (f : List ℕ) → f ++ [] ≡ f
    append_nil [] = refl
    append_nil (x ∷ xs) = ap (λ (t : List ℕ). x ∷ t) (append_nil xs)
text_push (m ∷ ls) l rest =
    append_assoc (spelled m) (lines_text (ls ++ l ∷ [])) rest ∙ ap (λ (t : List ℕ). spelled m ++ t) (text_push ls l rest) ∙ sym (append_assoc (spelled m) (lines_text ls) (spelled l ++ rest))

pub place_push : (p : Place) (ls : List Line) (l : Line) → place_behind p (ls ++ l ∷ []) ≡ place_of l
place_push p [] l = refl
place_push p (m ∷ ls) l = place_push (place_of m) ls l

pub names_push : (ls : List Line) (l : Line) → names_in (ls ++ l ∷ []) ≡ names_in ls ++ names_in (l ∷ [])
names_push [] l = refl
names_push (lines.Version ∷ ls) l = names_push ls l
names_push (lines.Map name n ∷ ls) l = names_push ls l
names_push (lines.Priv app ∷ ls) l = names_push ls l
names_push (lines.If iface name ∷ ls) l = ap (λ (ns : List (List ℕ)). name ∷ ns) (names_push ls l)
names_push (lines.Section ∷ ls) l = names_push ls l
names_push (lines.Cap bytes ∷ ls) l = names_push ls l
names_push (lines.Lane ∷ ls) l = names_push ls l
names_push (lines.Hook h ∷ ls) l = names_push ls l
names_push (lines.Desk ∷ ls) l = names_push ls l
names_push (lines.Command c ∷ ls) l = names_push ls l

pub read_more : (from : Place) (t : Tally) (bytes : List ℕ) (ls new : List Line) (place : Place) (names after : List (List ℕ)) (with more : Tally) (rest behind : List ℕ) (l : Line)
    → IsRead from t bytes ls place names with rest → Takes place names with rest l more behind → new ≡ ls ++ l ∷ [] → after ≡ names ++ names_in (l ∷ []) → IsRead from t bytes new (place_of l) after more behind
read_more from t bytes ls new place names after with more rest behind l r k is names_is =
    let stands : MayStand from ls l = subst (λ (p : Place). Stands p (names_in ls) l) r.place_is (subst (λ (ns : List (List ℕ)). Stands place ns l) r.names_are k.next.stands) in
    let bytes_fit : passed_by_bytes (tallied t ls) (spelled l) ≡ None =
    ap (λ (u : Tally). passed_by_bytes u (spelled l)) (sym r.tally_is) ∙ sym (bytes_same with l behind k.next.fits) ∙ ap (passed_by_bytes with) (sym k.next.text) ∙ k.next.bytes_fit in
    let kept : passed (added (tallied t ls) l) l ≡ None = ap (λ (u : Tally). passed (added u l) l) (sym r.tally_is) ∙ ap (λ (u : Tally). passed u l) (sym k.tally_is) ∙ k.kept in
    record {
      fits = subst (AllByRecursion IsLine) (sym is) (fits_push ls l r.fits k.next.fits);
      order = subst (InOrder from []) (sym is) (order_push from [] ls l r.order stands);
      limits = subst (KeepLimits t) (sym is) (limits_push t ls l r.limits bytes_fit kept);
      place_is = sym (ap (place_behind from) is ∙ place_push from ls l);
      names_are = names_is ∙ ap (λ (ns : List (List ℕ)). ns ++ names_in (l ∷ [])) r.names_are ∙ sym (names_push ls l) ∙ ap names_in (sym is);
      tally_is = k.tally_is ∙ ap (λ (u : Tally). added u l) r.tally_is ∙ sym (tally_push t ls l) ∙ ap (tallied t) (sym is);
      read = r.read ∙ ap (λ (x : List ℕ). lines_text ls ++ x) k.next.text ∙ sym (text_push ls l behind) ∙ ap (λ (xs : List Line). lines_text xs ++ behind) (sym is);
    }

pub stops_here : (from : Place) (t : Tally) (bytes : List ℕ) (first line : ℕ) (ls : List Line) (place : Place) (names : List (List ℕ)) (with : Tally) (rest : List ℕ) (Fails : Place → List (List ℕ) → Tally → List ℕ → Type 0)
    → IsRead from t bytes ls place names with rest → (0 < length ls → IsNextPart rest → ⊥) → line ≡ first + length ls → Fails place names with rest → FailsAt from t bytes first line Fails
stops_here from t bytes first line ls place names with rest Fails r on number fails = record {
  front = ls;
  rest = rest;
  fits = r.fits;
  order = r.order;
  limits = r.limits;
  read = r.read;
  goes_on = on;
  number = number;
  fails = subst (λ (p : Place). Fails p (names_in ls) (tallied t ls) rest) r.place_is (subst (λ (ns : List (List ℕ)). Fails place ns (tallied t ls) rest) r.names_are (subst (λ (u : Tally). Fails place names u rest) r.tally_is fails));
}

pub shorter : (l : Line) (rest behind : List ℕ) → rest ≡ spelled l ++ behind → length behind + 1 ≤ length rest
shorter l rest behind e = omega (arith, ap length e, ap length (line_then l behind), length-append (bare l) (10 ∷ behind))

-- ---- a part as far as its reader has come

-- each line has a byte at least
pub few_lines : (ls : List Line) → length ls ≤ length (lines_text ls)
few_lines [] = omega arith
few_lines (l ∷ ls) = omega (arith, few_lines ls, length-append (spelled l) (lines_text ls), some_byte l)
  where
    some_byte : (l : Line) → 0 < length (spelled l)
    some_byte l = omega (arith, shorter l (spelled l) [] (sym (append-nil (spelled l))), ap length (append-nil (spelled l)))

pub number_fits : (from : Place) (t : Tally) (first : ℕ) (bytes : List ℕ) (ls : List Line) (names : List (List ℕ)) (r : Reader) → IsReadTo from t first bytes ls names r → r.number ≤ first + length bytes
number_fits from t first bytes ls names r k =
    omega (arith, k.number, few_lines ls, ap length k.read.read, length-append (lines_text ls) r.rest.now)

-- nothing is read at first
pub none_read : (from : Place) (t : Tally) (first : ℕ) (bytes : List ℕ) (r : Reader) → r.place ≡ from → r.tally ≡ t → r.number ≡ first → r.rest.now ≡ bytes → IsSmall t → IsReadTo from t first bytes [] [] r
none_read from t first bytes r place tally number rest small = record {
  read = record { fits = tt; order = tt; limits = tt; place_is = place; names_are = refl; tally_is = tally; read = sym rest };
  number = omega (arith, number);
  small = subst IsSmall (sym tally) small;
}

-- a line more is read
pub read_on : (from : Place) (t : Tally) (first : ℕ) (bytes : List ℕ) (ls new : List Line) (names after : List (List ℕ)) (r s : Reader) (l : Line)
    → IsReadTo from t first bytes ls names r → Takes r.place names r.tally r.rest.now l s.tally s.rest.now → s.place ≡ place_of l → s.number ≡ r.number + 1 → new ≡ ls ++ l ∷ [] → after ≡ names ++ names_in (l ∷ [])
    → IsReadTo from t first bytes new after s
read_on from t first bytes ls new names after r s l k takes place number is named =
    let more = read_more from t bytes ls new r.place names after r.tally s.tally r.rest.now s.rest.now l k.read takes is named in
    record {
      read = subst (λ (p : Place). IsRead from t bytes new p after s.tally s.rest.now) (sym place) more;
      number = omega (arith, k.number, number, ap length is, length-append ls (l ∷ []));
      small = takes.small;
    }

-- the line that a reader stands before fails
pub fails_next : (from : Place) (t : Tally) (first line : ℕ) (bytes : List ℕ) (ls : List Line) (names : List (List ℕ)) (r : Reader) (Fails : Place → List (List ℕ) → Tally → List ℕ → Type 0)
    → IsReadTo from t first bytes ls names r → (0 < length ls → IsNextPart r.rest.now → ⊥) → line ≡ r.number → Fails r.place names r.tally r.rest.now → FailsAt from t bytes first line Fails
fails_next from t first line bytes ls names r Fails k on number fails =
    stops_here from t bytes first line ls r.place names r.tally r.rest.now Fails k.read on (number ∙ k.number) fails

-- ---- what was read is counted

added_bytes : (t : Tally) (l : Line) → (added t l).bytes ≡ t.bytes + length (spelled l)
added_bytes t lines.Version = refl
added_bytes t (lines.Map name n) = refl
added_bytes t (lines.Priv app) = refl
added_bytes t (lines.If iface name) = refl
added_bytes t lines.Section = refl
added_bytes t (lines.Cap bytes) = refl
added_bytes t lines.Lane = refl
added_bytes t (lines.Hook h) = refl
added_bytes t lines.Desk = refl
added_bytes t (lines.Command c) = refl

pub tallied_bytes : (t : Tally) (ls : List Line) → (tallied t ls).bytes ≡ t.bytes + length (lines_text ls)
tallied_bytes t [] = omega arith
tallied_bytes t (l ∷ ls) = omega (arith, tallied_bytes (added t l) ls, added_bytes t l, length-append (spelled l) (lines_text ls))

pub lines_few : (from : Place) (t : Tally) (first : ℕ) (bytes : List ℕ) (ls : List Line) (names : List (List ℕ)) (r : Reader) → IsReadTo from t first bytes ls names r → r.number + t.bytes ≤ first + r.tally.bytes
lines_few from t first bytes ls names r k =
    omega (arith, k.number, few_lines ls, tallied_bytes t ls, ap (λ (u : Tally). u.bytes) k.read.tally_is)

pub number_small : (from : Place) (t : Tally) (first : ℕ) (bytes : List ℕ) (ls : List Line) (names : List (List ℕ)) (r : Reader) → IsReadTo from t first bytes ls names r → r.number ≤ first + 268435456
number_small from t first bytes ls names r k = omega (arith, lines_few from t first bytes ls names r k, k.small.bytes_fit)

small_counts : (t : Tally) (n : ℕ) → IsSmall t → IsWithinLimits (counts_of t n)
small_counts t n small = record { bytes = small.bytes_fit; sections = small.sections_fit; hooks = small.hooks_fit; desk_lines = small.desk_lines_fit; collections = small.collections_fit }

pub record AreCountsOf (before : ℕ) (t : Tally) (ls : List Line) (c : Counts) : Type 0 where
  pub counts : c ≡ counts_of (tallied t ls) (before + length ls)
  pub limits : IsWithinLimits c
  pub lines : c.lines ≤ c.bytes

pub counts_read : (from : Place) (t : Tally) (before : ℕ) (bytes : List ℕ) (ls : List Line) (names : List (List ℕ)) (r : Reader) (c : Counts) → IsReadTo from t (before + 1) bytes ls names r → before ≤ t.bytes
    → ((n : ℕ) → n + 1 ≡ r.number → c ≡ counts_of r.tally n) → AreCountsOf before t ls c
counts_read from t before bytes ls names r c k few counted =
    let n : before + length ls + 1 ≡ r.number = omega (arith, k.number) in
    let is : c ≡ counts_of r.tally (before + length ls) = counted (before + length ls) n in
    let lines : before + length ls ≤ r.tally.bytes = omega (arith, lines_few from t (before + 1) bytes ls names r k, k.number, few) in
    record {
      counts = is ∙ ap (λ (u : Tally). counts_of u (before + length ls)) k.read.tally_is;
      limits = subst IsWithinLimits (sym is) (small_counts r.tally (before + length ls) k.small);
      lines = subst (λ (d : Counts). d.lines ≤ d.bytes) (sym is) lines;
    }

-- ---- a section, whose lines give no names

pub with_names : (from : Place) (t : Tally) (first : ℕ) (bytes : List ℕ) (ls : List Line) (names : List (ℕ × List ℕ)) (r : Reader) → names ≡ [] → IsReadTo from t first bytes ls [] r → IsReadTo from t first bytes ls (second_of names) r
with_names from t first bytes ls names r none k = subst (λ (ns : List (List ℕ)). IsReadTo from t first bytes ls ns r) (sym (ap second_of none)) k

pub without_names : (from : Place) (t : Tally) (first : ℕ) (bytes : List ℕ) (ls : List Line) (names : List (ℕ × List ℕ)) (r : Reader) → names ≡ [] → IsReadTo from t first bytes ls (second_of names) r → IsReadTo from t first bytes ls [] r
without_names from t first bytes ls names r none k = subst (λ (ns : List (List ℕ)). IsReadTo from t first bytes ls ns r) (ap second_of none) k

pub small_before : (c : Counts) → IsWithinLimits c → IsSmall (tally_before c)
small_before c h = record {
  bytes_fit = h.bytes;
  privs_fit = omega arith;
  ifs_fit = omega arith;
  sections_fit = h.sections;
  capture_fits = omega arith;
  lanes_fit = omega arith;
  hooks_fit = h.hooks;
  desk_lines_fit = h.desk_lines;
  collections_fit = h.collections;
}

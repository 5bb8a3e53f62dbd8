-- A section that is passed over, line by line.
use Rattle.std.proofs.Common.{◌≡◌, ℕ, true, ◌+◌, ◌<◌, ◌≤◌, List, [], ◌∷◌, ◌++◌, length, refl, sym, ap, subst, ◌∙◌, arith, length-append}
use Rattle.std.specs.List.{AllByRecursion}
use Rattle.script_text.specs.declared.line.Line.{Line}
use Rattle.script_text.specs.declared.line.Line.TheVariants as lines
use Rattle.script_text.specs.declared.place.Place.{Place}
use Rattle.script_text.specs.declared.place.Place.TheVariants as places
use Rattle.script_text.specs.declared.limits.Tally.{Tally}
use Rattle.script_text.specs.declared.limits.Counts.{Counts}
use Rattle.script_text.specs.declared.reader.Reader.{Reader}
use Rattle.script_text.specs.Lines.{IsLine}
use Rattle.script_text.specs.Order.{place_of, follows, is_inside, names_in, Stands, MayStand, InOrder}
use Rattle.script_text.specs.Parts.{lines_text, line_numbers, sum_of}
use Rattle.script_text.specs.Limits.{KeepLimits, counts_of, tallied, tally_before}
use Rattle.script_text.specs.Faults.{IsNextPart}
use Rattle.script_text.specs.Counted.{NeedsCapture, IsCountedAs, ReachesCapture}
use Rattle.script_text.specs.Drafts.{IsReadTo, IsPassed, Takes, second_of}
use Rattle.script_text.proofs.Growing.{all_push, section_of}
use Rattle.script_text.proofs.Orders.{read_on, counts_read}
use Rattle.script_text.proofs.Takings.{first_is_section, inside_next}

-- where no names were given
pub takes_nameless : (place : Place) (names : List (ℕ × List ℕ)) (t new : Tally) (rest more : List ℕ) (l : Line) → names ≡ [] → Takes place (second_of names) t rest l new more → Takes place [] t rest l new more
takes_nameless place names t new rest more l none takes = subst (λ (ns : List (List ℕ)). Takes place ns t rest l new more) (ap second_of none) takes

-- The cursor stands behind the line with which a section begins.
pub pass_first : (t : Tally) (first : ℕ) (bytes : List ℕ) (r s : Reader) (l : Line) → IsReadTo places.Next t first bytes [] [] r → r.place ≡ places.Next → Takes r.place [] r.tally r.rest.now l s.tally s.rest.now → s.place ≡ place_of l → s.number ≡ r.number + 1
    → IsPassed t first bytes s
pass_first t first bytes r s l read next takes place number =
    let is : l ≡ lines.Section = first_is_section l (subst (λ (p : Place). follows p l ≡ true) next takes.next.stands.follows_is) in
    record {
      front = l ∷ [];
      read = read_on places.Next t first bytes [] (l ∷ []) [] [] r s l read takes place number refl (sym (ap (λ (k : Line). names_in (k ∷ [])) is));
      some = omega arith;
      inside = ap is_inside (place ∙ ap place_of is);
      free = (λ needs. subst NeedsCapture is needs, tt);
    }

-- The cursor passes over one line more.
pub pass_on : (t : Tally) (first : ℕ) (bytes : List ℕ) (r s : Reader) (l : Line) → IsPassed t first bytes r → Takes r.place [] r.tally r.rest.now l s.tally s.rest.now → s.place ≡ place_of l → s.number ≡ r.number + 1
    → (NeedsCapture l → ⊥) → IsPassed t first bytes s
pass_on t first bytes r s l p takes place number none =
    let next = inside_next r.place l p.inside takes.next.stands.follows_is in
    record {
      front = p.front ++ l ∷ [];
      read = read_on places.Next t first bytes p.front (p.front ++ l ∷ []) [] [] r s l p.read takes place number refl (sym next.1);
      some = omega (arith, length-append p.front (l ∷ []));
      inside = ap is_inside place ∙ next.0;
      free = all_push (λ (k : Line). NeedsCapture k → ⊥) p.front l p.free none;
    }

-- The cursor stands before a line that has to do with a capture.
pub reaches : (t : Tally) (first : ℕ) (bytes : List ℕ) (r : Reader) (new : Tally) (more : List ℕ) (l : Line) → IsPassed t first bytes r → Takes r.place [] r.tally r.rest.now l new more → NeedsCapture l → ReachesCapture bytes
reaches t first bytes r new more l p takes needs =
    let read = p.read.read in
    let stands : MayStand places.Next p.front l = subst (λ (q : Place). Stands q (names_in p.front) l) read.place_is (subst (λ (ns : List (List ℕ)). Stands r.place ns l) read.names_are takes.next.stands) in
    record {
      front = p.front;
      line = l;
      more = more;
      order = read.order;
      stands = stands;
      fits = (read.fits, takes.next.fits);
      read = read.read ∙ ap (λ (x : List ℕ). lines_text p.front ++ x) takes.next.text;
      needs = needs;
    }

-- At its end the section is counted.
pub counted : (before : Counts) (bytes : List ℕ) (r : Reader) (c : Counts) → before.lines ≤ before.bytes → IsPassed (tally_before before) (before.lines + 1) bytes r
    → ((n : ℕ) → n + 1 ≡ r.number → c ≡ counts_of r.tally n) → IsNextPart r.rest.now → IsCountedAs before bytes c
counted before bytes r c few p is end = at p.front p.read p.some p.free
  where
    at : (ls : List Line) → IsReadTo places.Next (tally_before before) (before.lines + 1) bytes ls [] r → 0 < length ls → AllByRecursion (λ (k : Line). NeedsCapture k → ⊥) ls → IsCountedAs before bytes c
    at [] read some free = absurd (omega (arith, some))
    at (l ∷ ls) read some free =
        let made = section_of (before.lines + 1) l ls read.read.order free in
        let s = made.0 in
        let lines = made.1.lines in
        let counts = counts_read places.Next (tally_before before) before.lines bytes (l ∷ ls) [] r c read few is in
        record {
          section = s;
          next = record {
            section = record {
              fits = subst (AllByRecursion IsLine) (sym lines) read.read.fits;
              order = subst (InOrder places.Next []) (sym lines) read.read.order;
              captured = ap sum_of made.1.no_capture.no_caps ∙ sym (ap length made.1.no_capture.no_bytes);
              numbered = made.1.numbered ∙ ap (λ (k : ℕ). line_numbers k (l ∷ ls)) (sym made.1.first_is) ∙ ap (line_numbers s.first) (sym lines);
            };
            first = made.1.first_is;
            limits = subst (KeepLimits (tally_before before)) (sym lines) read.read.limits;
          };
          counts_are = counts.counts ∙ ap (λ (ms : List Line). counts_of (tallied (tally_before before) ms) (before.lines + length ms)) (sym lines);
          limits = counts.limits;
          lines = counts.lines;
          spelled = (r.rest.now, read.read.read ∙ ap (λ (ms : List Line). lines_text ms ++ r.rest.now) (sym lines), end);
          no_capture = made.1.no_capture;
        }

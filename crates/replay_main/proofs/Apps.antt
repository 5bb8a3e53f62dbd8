-- The privileged apps of a header ascend, and are app ids.
use Rattle.std.proofs.Common.{◌≡◌, ℕ, zero, suc, ◌+◌, ◌<◌, List, [], ◌∷◌, ◌++◌, length, map, refl, sym, ap, subst, ◌∙◌, arith, true, append_assoc}
use Rattle.std.proofs.lemmas.List.{append-nil}
use Rattle.std.specs.Prelude.{nat_lt}
use Rattle.std.specs.List.{AllByRecursion, slice_index}
use Rattle.std.proofs.lemmas.List.Elements.{All-from_recursion}
use Rattle.desk_core.specs.Ranges.{AreApps}
use Rattle.script_text.specs.declared.header.Header.{Header}
use Rattle.script_text.specs.declared.line.Line.{Line}
use Rattle.script_text.specs.declared.line.Line.TheVariants as lines
use Rattle.script_text.specs.declared.map_name.MapName.{MapName}
use Rattle.script_text.specs.declared.place.Place.{Place}
use Rattle.script_text.specs.declared.place.Place.TheVariants as places
use Rattle.script_text.specs.Lines.{IsLine}
use Rattle.script_text.specs.Order.{place_of, place_behind, InOrder, takes_priv}
use Rattle.script_text.specs.Script.{IsFirstHeader}

front_fits : (xs ys : List Line) → AllByRecursion IsLine (xs ++ ys) → AllByRecursion IsLine xs × AllByRecursion IsLine ys
front_fits [] ys h = (tt, h)
front_fits (x ∷ xs) ys h = let rest = front_fits xs ys h.1 in ((h.0, rest.0), rest.1)

order_parts : (from : Place) (front xs ys : List Line) → InOrder from front (xs ++ ys) → InOrder from front xs × InOrder from (front ++ xs) ys
order_parts from front [] ys h = (tt, subst (λ (f : List Line). InOrder from f ys) (sym (append-nil front)) h)
order_parts from front (x ∷ xs) ys h =
    let rest = order_parts from (front ++ x ∷ []) xs ys h.1 in
    ((h.0, rest.0), subst (λ (f : List Line). InOrder from f ys) (append_assoc front (x ∷ []) xs) rest.1)

privs : List ℕ → List Line
privs apps = map (λ app. lines.Priv app) apps

apps_below : (apps : List ℕ) → AllByRecursion IsLine (privs apps) → AllByRecursion (λ app. app < 100000) apps
unfolding privs
apps_below [] h = tt
apps_below (a ∷ as_) h = (let m = h.0.1.0.most_is in omega (arith, m), apps_below as_ h.1)

place_last : (from : Place) (front : List Line) (l : Line) → place_behind from (front ++ l ∷ []) ≡ place_of l
place_last from [] l = refl
place_last from (x ∷ xs) l = place_last (place_of x) xs l

apps_ascend : (from : Place) (front : List Line) (apps : List ℕ) → InOrder from front (privs apps) → (k : ℕ) → suc k < length apps → slice_index apps k < slice_index apps (k + 1)
unfolding privs
apps_ascend from front [] h k below = absurd (omega (arith, below))
apps_ascend from front (a ∷ []) h k below = absurd (omega (arith, below))
apps_ascend from front (a ∷ b ∷ rest) h zero below =
    let stands : takes_priv (place_behind from (front ++ lines.Priv a ∷ [])) b ≡ true = h.1.0.follows_is in
    let here : nat_lt a b ≡ true = sym (ap (λ (p : Place). takes_priv p b) (place_last from front (lines.Priv a))) ∙ stands in
    grind (arith, here)
apps_ascend from front (a ∷ b ∷ rest) h (suc k) below =
    let next : suc (k + 1) ≡ suc k + 1 = omega arith in
    subst (λ (n : ℕ). slice_index (a ∷ b ∷ rest) (suc k) < slice_index (a ∷ b ∷ rest) n) next
    (apps_ascend from (front ++ lines.Priv a ∷ []) (b ∷ rest) h.1 k (omega (arith, below)))

pub header_apps : (h : Header) → IsFirstHeader h → AreApps h.privileged
unfolding privs
header_apps h is =
    let maps = map (λ (m : MapName × ℕ). lines.Map m.0 m.1) h.maps in
    let ifs = map (λ (n : ℕ × List ℕ). lines.If n.0 n.1) h.names in
    let behind = order_parts places.Start (lines.Version ∷ []) maps (privs h.privileged ++ ifs) is.header.order.1 in
    let ours = order_parts places.Start ((lines.Version ∷ []) ++ maps) (privs h.privileged) ifs behind.1 in
    let fits = front_fits (privs h.privileged) ifs (front_fits maps (privs h.privileged ++ ifs) is.header.fits.1).1 in
    record {
      below = All-from_recursion (λ app. app < 100000) h.privileged (apps_below h.privileged fits.0);
      ascend = λ k below. apps_ascend places.Start ((lines.Version ∷ []) ++ maps) h.privileged ours.0 k (omega (arith, below));
    }

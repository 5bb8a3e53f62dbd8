-- What a part as far as it was read may take next.
use Rattle.std.proofs.Common.{◌≡◌, ℕ, Bool, true, false, [], ◌∷◌, refl, sym, subst, ◌∙◌}
use Rattle.std.specs.Prelude.{None, IsSome, IsSomeAnd}
use Rattle.script_text.specs.declared.map_name.MapName.{MapName}
use Rattle.script_text.specs.declared.line.Line.{Line}
use Rattle.script_text.specs.declared.line.Line.TheVariants as lines
use Rattle.script_text.specs.declared.place.Place.{Place}
use Rattle.script_text.specs.declared.place.Place.TheVariants as places
use Rattle.script_text.specs.declared.header.Header.{Header}
use Rattle.script_text.specs.declared.draft.Draft.{Draft}
use Rattle.script_text.specs.Lanes.{ComesNext}
use Rattle.script_text.specs.Order.{follows, place_of, is_inside, names_in, takes_map, takes_priv, takes_if, is_start, is_next, is_section, is_lane, is_desk, is_open}
use Rattle.script_text.specs.Drafts.{HeaderAt, HeaderTakes, DraftAt, DraftTakes, IsBare}
use Rattle.script_text.proofs.NextLines.{true_false}

-- a place of a header
record IsHeaderPlace (p : Place) : Type 0 where
  no_start : is_start p ≡ false
  no_next : is_next p ≡ false
  no_section : is_section p ≡ false
  no_lane : is_lane p ≡ false
  no_desk : is_desk p ≡ false
  no_open : is_open p ≡ false

header_place : (p : Place) (h : Header) → HeaderAt p h → IsHeaderPlace p
header_place places.Start h at = absurd at
header_place places.Next h at = absurd at
header_place places.Version h at = record { no_start = refl; no_next = refl; no_section = refl; no_lane = refl; no_desk = refl; no_open = refl }
header_place (places.Map m) h at = record { no_start = refl; no_next = refl; no_section = refl; no_lane = refl; no_desk = refl; no_open = refl }
header_place (places.Priv a) h at = record { no_start = refl; no_next = refl; no_section = refl; no_lane = refl; no_desk = refl; no_open = refl }
header_place (places.If i) h at = record { no_start = refl; no_next = refl; no_section = refl; no_lane = refl; no_desk = refl; no_open = refl }
header_place places.Section h at = absurd at
header_place places.Lane h at = absurd at
header_place places.Desk h at = absurd at

pub neither : (b : Bool) → b ≡ true → b ≡ false → ⊥
neither b e f = true_false (sym e ∙ f)

map_taken : (p : Place) (h : Header) (name : MapName) → HeaderAt p h → takes_map p name ≡ true → (h.privileged ≡ []) × (h.names ≡ [])
map_taken places.Start h name at e = absurd at
map_taken places.Next h name at e = absurd at
map_taken places.Version h name at e = at.1
map_taken (places.Map m) h name at e = at
map_taken (places.Priv a) h name at e = absurd (true_false (sym e))
map_taken (places.If i) h name at e = absurd (true_false (sym e))
map_taken places.Section h name at e = absurd at
map_taken places.Lane h name at e = absurd at
map_taken places.Desk h name at e = absurd at

priv_taken : (p : Place) (h : Header) (app : ℕ) → HeaderAt p h → takes_priv p app ≡ true → h.names ≡ []
priv_taken places.Start h app at e = absurd at
priv_taken places.Next h app at e = absurd at
priv_taken places.Version h app at e = at.1.1
priv_taken (places.Map m) h app at e = at.1
priv_taken (places.Priv a) h app at e = at
priv_taken (places.If i) h app at e = absurd (true_false (sym e))
priv_taken places.Section h app at e = absurd at
priv_taken places.Lane h app at e = absurd at
priv_taken places.Desk h app at e = absurd at

pub header_takes : (p : Place) (h : Header) (l : Line) → HeaderAt p h → follows p l ≡ true → HeaderTakes h l
header_takes p h lines.Version at e = neither (is_start p) e (header_place p h at).no_start
header_takes p h (lines.Map name n) at e = map_taken p h name at e
header_takes p h (lines.Priv app) at e = priv_taken p h app at e
header_takes p h (lines.If iface name) at e = tt
header_takes p h lines.Section at e = neither (is_next p) e (header_place p h at).no_next
header_takes p h (lines.Cap bytes) at e = neither (is_section p) e (header_place p h at).no_section
header_takes p h lines.Lane at e = neither (is_open p) e (header_place p h at).no_open
header_takes p h (lines.Hook hook) at e = neither (is_lane p) e (header_place p h at).no_lane
header_takes p h lines.Desk at e = neither (is_open p) e (header_place p h at).no_open
header_takes p h (lines.Command c) at e = neither (is_desk p) e (header_place p h at).no_desk

-- a place of a section
pub record IsSectionPlace (p : Place) : Type 0 where
  pub no_start : is_start p ≡ false
  pub no_next : is_next p ≡ false
  pub no_map : (name : MapName) → takes_map p name ≡ false
  pub no_priv : (app : ℕ) → takes_priv p app ≡ false
  pub no_if : (iface : ℕ) → takes_if p iface ≡ false

section_place : (p : Place) (n : ℕ) (d : Draft) → DraftAt p n d → IsSectionPlace p
section_place places.Start n d at = absurd at
section_place places.Next n d at = absurd at
section_place places.Version n d at = absurd at
section_place (places.Map m) n d at = absurd at
section_place (places.Priv a) n d at = absurd at
section_place (places.If i) n d at = absurd at
section_place places.Section n d at = record { no_start = refl; no_next = refl; no_map = λ _. refl; no_priv = λ _. refl; no_if = λ _. refl }
section_place places.Lane n d at = record { no_start = refl; no_next = refl; no_map = λ _. refl; no_priv = λ _. refl; no_if = λ _. refl }
section_place places.Desk n d at = record { no_start = refl; no_next = refl; no_map = λ _. refl; no_priv = λ _. refl; no_if = λ _. refl }

cap_taken : (p : Place) (n : ℕ) (d : Draft) → DraftAt p n d → is_section p ≡ true → IsBare d
cap_taken places.Start n d at e = absurd at
cap_taken places.Next n d at e = absurd at
cap_taken places.Version n d at e = absurd at
cap_taken (places.Map m) n d at e = absurd at
cap_taken (places.Priv a) n d at e = absurd at
cap_taken (places.If i) n d at e = absurd at
cap_taken places.Section n d at e = at
cap_taken places.Lane n d at e = absurd (true_false (sym e))
cap_taken places.Desk n d at e = absurd (true_false (sym e))

open_taken : (p : Place) (n : ℕ) (d : Draft) → DraftAt p n d → is_open p ≡ true → d.desk ≡ None
open_taken places.Start n d at e = absurd at
open_taken places.Next n d at e = absurd at
open_taken places.Version n d at e = absurd at
open_taken (places.Map m) n d at e = absurd at
open_taken (places.Priv a) n d at e = absurd at
open_taken (places.If i) n d at e = absurd at
open_taken places.Section n d at e = at.no_desk
open_taken places.Lane n d at e = at.0
open_taken places.Desk n d at e = absurd (true_false (sym e))

hook_taken : (p : Place) (n : ℕ) (d : Draft) → DraftAt p n d → is_lane p ≡ true → (d.desk ≡ None) × IsSomeAnd d.lane (λ lane. ComesNext lane n)
hook_taken places.Start n d at e = absurd at
hook_taken places.Next n d at e = absurd at
hook_taken places.Version n d at e = absurd at
hook_taken (places.Map m) n d at e = absurd at
hook_taken (places.Priv a) n d at e = absurd at
hook_taken (places.If i) n d at e = absurd at
hook_taken places.Section n d at e = absurd (true_false (sym e))
hook_taken places.Lane n d at e = at
hook_taken places.Desk n d at e = absurd (true_false (sym e))

command_taken : (p : Place) (n : ℕ) (d : Draft) → DraftAt p n d → is_desk p ≡ true → IsSome d.desk
command_taken places.Start n d at e = absurd at
command_taken places.Next n d at e = absurd at
command_taken places.Version n d at e = absurd at
command_taken (places.Map m) n d at e = absurd at
command_taken (places.Priv a) n d at e = absurd at
command_taken (places.If i) n d at e = absurd at
command_taken places.Section n d at e = absurd (true_false (sym e))
command_taken places.Lane n d at e = absurd (true_false (sym e))
command_taken places.Desk n d at e = at

pub draft_takes : (p : Place) (n : ℕ) (d : Draft) (l : Line) → DraftAt p n d → follows p l ≡ true → DraftTakes d n l
draft_takes p n d lines.Version at e = neither (is_start p) e (section_place p n d at).no_start
draft_takes p n d (lines.Map name k) at e = neither (takes_map p name) e ((section_place p n d at).no_map name)
draft_takes p n d (lines.Priv app) at e = neither (takes_priv p app) e ((section_place p n d at).no_priv app)
draft_takes p n d (lines.If iface name) at e = neither (takes_if p iface) e ((section_place p n d at).no_if iface)
draft_takes p n d lines.Section at e = neither (is_next p) e (section_place p n d at).no_next
draft_takes p n d (lines.Cap bytes) at e = cap_taken p n d at e
draft_takes p n d lines.Lane at e = open_taken p n d at e
draft_takes p n d (lines.Hook hook) at e = hook_taken p n d at e
draft_takes p n d lines.Desk at e = open_taken p n d at e
draft_takes p n d (lines.Command c) at e = command_taken p n d at e

-- a section's lines give no names
pub no_names : (n : ℕ) (d : Draft) (l : Line) → DraftTakes d n l → names_in (l ∷ []) ≡ []
no_names n d lines.Version t = absurd t
no_names n d (lines.Map name k) t = absurd t
no_names n d (lines.Priv app) t = absurd t
no_names n d (lines.If iface name) t = absurd t
no_names n d lines.Section t = absurd t
no_names n d (lines.Cap bytes) t = refl
no_names n d lines.Lane t = refl
no_names n d (lines.Hook hook) t = refl
no_names n d lines.Desk t = refl
no_names n d (lines.Command c) t = refl

-- the first line of a script, and of a section
pub first_is_version : (l : Line) → follows places.Start l ≡ true → l ≡ lines.Version
first_is_version lines.Version e = refl
first_is_version (lines.Map name k) e = absurd (true_false (sym e))
first_is_version (lines.Priv app) e = absurd (true_false (sym e))
first_is_version (lines.If iface name) e = absurd (true_false (sym e))
first_is_version lines.Section e = absurd (true_false (sym e))
first_is_version (lines.Cap bytes) e = absurd (true_false (sym e))
first_is_version lines.Lane e = absurd (true_false (sym e))
first_is_version (lines.Hook hook) e = absurd (true_false (sym e))
first_is_version lines.Desk e = absurd (true_false (sym e))
first_is_version (lines.Command c) e = absurd (true_false (sym e))

pub first_is_section : (l : Line) → follows places.Next l ≡ true → l ≡ lines.Section
first_is_section lines.Version e = absurd (true_false (sym e))
first_is_section (lines.Map name k) e = absurd (true_false (sym e))
first_is_section (lines.Priv app) e = absurd (true_false (sym e))
first_is_section (lines.If iface name) e = absurd (true_false (sym e))
first_is_section lines.Section e = refl
first_is_section (lines.Cap bytes) e = absurd (true_false (sym e))
first_is_section lines.Lane e = absurd (true_false (sym e))
first_is_section (lines.Hook hook) e = absurd (true_false (sym e))
first_is_section lines.Desk e = absurd (true_false (sym e))
first_is_section (lines.Command c) e = absurd (true_false (sym e))

-- the same place and the same number
pub at_same : (p q : Place) (n m : ℕ) (d : Draft) → p ≡ q → n ≡ m → DraftAt q m d → DraftAt p n d
at_same p q n m d e f at = subst (λ (r : Place). DraftAt r n d) (sym e) (subst (λ (k : ℕ). DraftAt q k d) (sym f) at)

-- ---- a section that is not kept

inside_place : (p : Place) → is_inside p ≡ true → IsSectionPlace p
inside_place places.Start e = absurd (true_false (sym e))
inside_place places.Next e = absurd (true_false (sym e))
inside_place places.Version e = absurd (true_false (sym e))
inside_place (places.Map m) e = absurd (true_false (sym e))
inside_place (places.Priv a) e = absurd (true_false (sym e))
inside_place (places.If i) e = absurd (true_false (sym e))
inside_place places.Section e = record { no_start = refl; no_next = refl; no_map = λ _. refl; no_priv = λ _. refl; no_if = λ _. refl }
inside_place places.Lane e = record { no_start = refl; no_next = refl; no_map = λ _. refl; no_priv = λ _. refl; no_if = λ _. refl }
inside_place places.Desk e = record { no_start = refl; no_next = refl; no_map = λ _. refl; no_priv = λ _. refl; no_if = λ _. refl }

-- a line inside a section leaves it inside, and gives no name
pub inside_next : (p : Place) (l : Line) → is_inside p ≡ true → follows p l ≡ true → (is_inside (place_of l) ≡ true) × (names_in (l ∷ []) ≡ [])
inside_next p lines.Version inside e = absurd (neither (is_start p) e (inside_place p inside).no_start)
inside_next p (lines.Map name n) inside e = absurd (neither (takes_map p name) e ((inside_place p inside).no_map name))
inside_next p (lines.Priv app) inside e = absurd (neither (takes_priv p app) e ((inside_place p inside).no_priv app))
inside_next p (lines.If iface name) inside e = absurd (neither (takes_if p iface) e ((inside_place p inside).no_if iface))
inside_next p lines.Section inside e = absurd (neither (is_next p) e (inside_place p inside).no_next)
inside_next p (lines.Cap bytes) inside e = (refl, refl)
inside_next p lines.Lane inside e = (refl, refl)
inside_next p (lines.Hook hook) inside e = (refl, refl)
inside_next p lines.Desk inside e = (refl, refl)
inside_next p (lines.Command c) inside e = (refl, refl)

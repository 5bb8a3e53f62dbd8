-- Lines are told apart by their texts.
use Rattle.std.proofs.Common.{◌≡◌, ◌≢◌, ℕ, ◌+◌, ◌-◌, ◌^◌, ◌<◌, ◌≤◌, Bool, true, false, eqb, List, [], ◌∷◌, ◌++◌, length, length-append, refl, sym, ap, ◌∙◌, append_assoc, arith, inl, inr}
use Rattle.std.specs.Prelude.{◌&&◌, IsTrue, nat_lt, nat_le, if◌then◌else◌, Some, None}
use Rattle.std.proofs.lemmas.List.{append-nil}
use Rattle.script_text.specs.declared.limits.Tally.{Tally}
use Rattle.script_text.specs.declared.fault.Which.TheVariants as which
use Rattle.script_text.specs.Limits.{first_line, before_feed, passed_by_bytes, most_bytes}
use Rattle.std.specs.List.{AllByRecursion, join_with_byte, list_all}
use Rattle.std.specs.Fmt.{decimal}
use Rattle.std.specs.Str.Parse.{AllDigits}
use Rattle.std.proofs.lemmas.Str.Parse.{digit_from_value}
use Rattle.std.proofs.lemmas.Fmt.{decimal_is_IsNumeral}
use Rattle.std.proofs.lemmas.Bool.{eqb-false}
use Rattle.std.proofs.lemmas.Bool.Decides.{eqb_tells}
use Rattle.std.proofs.lemmas.List.Elements.{All-from_recursion, recursion_from_All}
use Rattle.std.proofs.lemmas.List.Splits.{slice_split_at, slice_split_none, join_with_byte-slice_split}
use Rattle.hex.specs.Hex.{encode_lower, is_hex_digit}
use Rattle.hex.proofs.HexLemmas.{decode_of-encode_lower, decode_of-ok}
use Rattle.acct_base.specs.declared.packet.Dir.{Dir}
use Rattle.acct_base.specs.declared.packet.Dir.TheVariants.{Ingress, Egress}
use Rattle.acct_base.specs.declared.packet.Family.{Family}
use Rattle.acct_base.specs.declared.packet.Family.TheVariants.{V4, V6, Other}
use Rattle.acct_base.specs.Text.{line_text}
use Rattle.desk_core.specs.declared.command.Chain.{Chain}
use Rattle.desk_core.specs.declared.command.Chain.TheVariants as chain
use Rattle.desk_core.specs.declared.command.Bit.{Bit}
use Rattle.desk_core.specs.declared.command.Bit.TheVariants as bit
use Rattle.desk_core.specs.declared.command.Command.TheVariants as command
use Rattle.script_text.specs.declared.map_name.MapName.{MapName}
use Rattle.script_text.specs.declared.map_name.MapName.TheVariants as maps
use Rattle.script_text.specs.declared.hook_line.HookLine.TheVariants as hooks
use Rattle.script_text.specs.declared.line.Line.{Line}
use Rattle.script_text.specs.declared.line.Line.TheVariants as lines
use Rattle.script_text.specs.Pieces.{parts, Lacks}
use Rattle.script_text.specs.Lines.{Field, Word, Number, Hex, Head, Name, IsLine, AreBytes, AllFit, FieldFits, texts, field_text, form, line_fields, head_word, spelled, is_name, is_letter, is_name_byte, hook_word, packet_word, iface_word, family_word, chain_word, bit_word, map_word, most_of, ascending_uids}
use Rattle.script_text.proofs.HexFields.{to_bytes}
use Rattle.script_text.proofs.Unread.{line_same}

-- ---- fields have no space and no line feed

-- bytes above the space
abbrev pub IsField : List ℕ → Type 0
IsField f = AllByRecursion (λ b. 32 < b) f

digits_field : (ds : List ℕ) → AllDigits 10 ds → IsField ds
digits_field [] h = tt
digits_field (d ∷ ds) h = (let r = digit_from_value d h.0 in omega (arith, r.0), digits_field ds h.1)

decimal_field : (n : ℕ) → n < 2 ^ 64 → IsField (decimal n)
decimal_field n lt = digits_field (decimal n) (decimal_is_IsNumeral n lt).0.1

above_hex : (c : ℕ) → is_hex_digit c ≡ true → 32 < c
above_hex c h = grind arith

hex_digits_field : (ds : List ℕ) → AllByRecursion (λ c. is_hex_digit c ≡ true) ds → IsField ds
hex_digits_field [] h = tt
hex_digits_field (d ∷ ds) h = (above_hex d h.0, hex_digits_field ds h.1)

hex_field : (bs : List ℕ) → AreBytes bs → IsField (encode_lower bs)
hex_field bs h =
    let ok = decode_of-ok (encode_lower bs) bs (decode_of-encode_lower bs (to_bytes bs h)) in
    hex_digits_field (encode_lower bs) (recursion_from_All (λ c. is_hex_digit c ≡ true) (encode_lower bs) ok.1)

head_field : (bs : List ℕ) → AreBytes bs → IsField (head_word bs)
head_field [] h = (omega arith, tt)
head_field (b ∷ bs) h = hex_field (b ∷ bs) h

pub both_true : (a b : Bool) → (a && b) ≡ true → (a ≡ true) × (b ≡ true)
both_true true true e = (refl, refl)
both_true true false e = absurd cc
both_true false b e = absurd cc

above_name : (c : ℕ) → is_name_byte c ≡ true → 32 < c
above_name c h = grind arith

name_bytes : (cs : List ℕ) → list_all is_name_byte cs ≡ true → IsField cs
name_bytes [] e = tt
name_bytes (c ∷ cs) e = let h = both_true (is_name_byte c) (list_all is_name_byte cs) e in (above_name c h.0, name_bytes cs h.1)

name_field : (name : List ℕ) → IsTrue (is_name name) → IsField name
name_field [] e = tt
name_field (c ∷ cs) e = name_bytes (c ∷ cs) (both_true (is_letter c && nat_le (length (c ∷ cs)) 15) (list_all is_name_byte (c ∷ cs)) e).1

-- the words have no space, and the numbers are of 64 bits
abbrev IsShape : Field → Type 0
IsShape (Word w) = IsField w
IsShape (Number least most n) = most < 2 ^ 64
IsShape (Hex most bytes) = Unit {0}
IsShape (Head most bytes) = Unit {0}
IsShape (Name name) = Unit {0}

field_ok : (f : Field) → IsShape f → FieldFits f → IsField (field_text f)
field_ok (Word w) s h = s
field_ok (Number least most n) s h = decimal_field n (omega (arith, h.most_is))
field_ok (Hex most bytes) s h = hex_field bytes h.are_bytes
field_ok (Head most bytes) s h = head_field bytes h.are_bytes
field_ok (Name name) s h = name_field name h

fields_ok : (fs : List Field) → AllByRecursion IsShape fs → AllFit fs → AllByRecursion IsField (texts fs)
fields_ok [] s h = tt
fields_ok (f ∷ fs) s h = (field_ok f s.0 h.0, fields_ok fs s.1 h.1)

hook_shape : (x : Dir) → IsField (hook_word x)
hook_shape Ingress = (omega arith, (omega arith, tt))
hook_shape Egress = (omega arith, (omega arith, (omega arith, tt)))

packet_shape : (x : Dir) → IsField (packet_word x)
packet_shape Ingress = (omega arith, (omega arith, (omega arith, tt)))
packet_shape Egress = (omega arith, (omega arith, (omega arith, (omega arith, tt))))

iface_shape : (x : Dir) → IsField (iface_word x)
iface_shape Ingress = (omega arith, (omega arith, (omega arith, tt)))
iface_shape Egress = (omega arith, (omega arith, (omega arith, (omega arith, tt))))

family_shape : (x : Family) → IsField (family_word x)
family_shape V4 = (omega arith, tt)
family_shape V6 = (omega arith, tt)
family_shape Other = (omega arith, tt)

chain_shape : (x : Chain) → IsField (chain_word x)
chain_shape chain.Dozable = (omega arith, (omega arith, (omega arith, (omega arith, (omega arith, (omega arith, (omega arith, tt)))))))
chain_shape chain.Standby = (omega arith, (omega arith, (omega arith, (omega arith, (omega arith, (omega arith, (omega arith, tt)))))))
chain_shape chain.PowerSave = (omega arith, (omega arith, (omega arith, (omega arith, (omega arith, (omega arith, (omega arith, (omega arith, (omega arith, tt)))))))))

bit_shape : (x : Bit) → IsField (bit_word x)
bit_shape bit.Happy = (omega arith, (omega arith, (omega arith, (omega arith, (omega arith, tt)))))
bit_shape bit.Penalty = (omega arith, (omega arith, (omega arith, (omega arith, (omega arith, (omega arith, (omega arith, tt)))))))
bit_shape bit.Dozable = (omega arith, (omega arith, (omega arith, (omega arith, (omega arith, (omega arith, (omega arith, tt)))))))
bit_shape bit.Standby = (omega arith, (omega arith, (omega arith, (omega arith, (omega arith, (omega arith, (omega arith, tt)))))))
bit_shape bit.PowerSave = (omega arith, (omega arith, (omega arith, (omega arith, (omega arith, (omega arith, (omega arith, (omega arith, (omega arith, tt)))))))))
bit_shape bit.Iface = (omega arith, (omega arith, (omega arith, (omega arith, (omega arith, tt)))))

map_shape : (x : MapName) → IsField (map_word x)
map_shape maps.Rows = (omega arith, (omega arith, (omega arith, (omega arith, tt))))
map_shape maps.Cookies = (omega arith, (omega arith, (omega arith, (omega arith, (omega arith, (omega arith, (omega arith, tt)))))))
map_shape maps.Sets = (omega arith, (omega arith, (omega arith, (omega arith, tt))))
map_shape maps.Owners = (omega arith, (omega arith, (omega arith, (omega arith, (omega arith, (omega arith, tt))))))
map_shape maps.Writes = (omega arith, (omega arith, (omega arith, (omega arith, (omega arith, (omega arith, tt))))))
map_shape maps.Apps = (omega arith, (omega arith, (omega arith, (omega arith, tt))))
map_shape maps.Ifaces = (omega arith, (omega arith, (omega arith, (omega arith, (omega arith, (omega arith, tt))))))

size_shape : (m : MapName) → most_of m < 2 ^ 64
size_shape maps.Rows = omega arith
size_shape maps.Cookies = omega arith
size_shape maps.Sets = omega arith
size_shape maps.Owners = omega arith
size_shape maps.Writes = omega arith
size_shape maps.Apps = omega arith
size_shape maps.Ifaces = omega arith

uids_shape : (from : ℕ) (us : List ℕ) → AllByRecursion IsShape (ascending_uids from us)
uids_shape from [] = tt
uids_shape from (u ∷ us) = (omega arith, uids_shape (u + 1) us)

shapes : (l : Line) → AllByRecursion IsShape (form l)
shapes lines.Version = ((omega arith, (omega arith, (omega arith, (omega arith, (omega arith, (omega arith, (omega arith, tt))))))), ((omega arith, tt), tt))
shapes (lines.Map name n) = ((omega arith, (omega arith, (omega arith, tt))), (map_shape name, (size_shape name, tt)))
shapes (lines.Priv app) = ((omega arith, (omega arith, (omega arith, (omega arith, tt)))), (omega arith, tt))
shapes (lines.If iface name) = ((omega arith, (omega arith, tt)), (omega arith, (tt, tt)))
shapes lines.Section = ((omega arith, (omega arith, (omega arith, (omega arith, (omega arith, (omega arith, (omega arith, tt))))))), tt)
shapes (lines.Cap bytes) = ((omega arith, (omega arith, (omega arith, tt))), (tt, tt))
shapes lines.Lane = ((omega arith, (omega arith, (omega arith, (omega arith, tt)))), tt)
shapes (lines.Hook (hooks.Hook dir family uid iface len cookie head)) = (hook_shape dir, (omega arith, (omega arith, (omega arith, (family_shape family, (omega arith, (tt, tt)))))))
shapes (lines.Hook (hooks.Packet dir uid iface index cookie)) = (packet_shape dir, (omega arith, (omega arith, (omega arith, (omega arith, tt)))))
shapes (lines.Hook (hooks.Iface call)) = (iface_shape call.dir, (omega arith, (omega arith, (family_shape call.family, (omega arith, tt)))))
shapes (lines.Hook (hooks.Allow true uid cookie)) = ((omega arith, (omega arith, (omega arith, (omega arith, (omega arith, tt))))), (omega arith, (omega arith, ((omega arith, (omega arith, tt)), tt))))
shapes (lines.Hook (hooks.Allow false uid cookie)) = ((omega arith, (omega arith, (omega arith, (omega arith, (omega arith, tt))))), (omega arith, (omega arith, ((omega arith, (omega arith, tt)), tt))))
shapes (lines.Hook (hooks.Deny uid)) = ((omega arith, (omega arith, (omega arith, (omega arith, tt)))), (omega arith, tt))
shapes lines.Desk = ((omega arith, (omega arith, (omega arith, (omega arith, tt)))), tt)
shapes (lines.Command (command.Tag caller cookie uid tag)) = ((omega arith, (omega arith, (omega arith, tt))), (omega arith, (omega arith, (omega arith, (omega arith, tt)))))
shapes (lines.Command (command.Untag cookie)) = ((omega arith, (omega arith, (omega arith, (omega arith, (omega arith, tt))))), (omega arith, tt))
shapes (lines.Command (command.Set caller uid set)) = ((omega arith, (omega arith, (omega arith, tt))), (omega arith, (omega arith, (omega arith, tt))))
shapes (lines.Command (command.Delete caller uid tag)) = ((omega arith, (omega arith, (omega arith, tt))), (omega arith, (omega arith, (omega arith, tt))))
shapes (lines.Command (command.Add uid b iface)) = ((omega arith, (omega arith, (omega arith, tt))), (omega arith, (bit_shape b, (omega arith, tt))))
shapes (lines.Command (command.Remove uid b)) = ((omega arith, (omega arith, (omega arith, (omega arith, (omega arith, (omega arith, tt)))))), (omega arith, (bit_shape b, tt)))
shapes (lines.Command (command.Toggle c true)) = ((omega arith, (omega arith, (omega arith, (omega arith, (omega arith, tt))))), (chain_shape c, ((omega arith, (omega arith, tt)), tt)))
shapes (lines.Command (command.Toggle c false)) = ((omega arith, (omega arith, (omega arith, (omega arith, (omega arith, tt))))), (chain_shape c, ((omega arith, (omega arith, (omega arith, tt))), tt)))
shapes (lines.Command (command.Firewall c uid true)) = ((omega arith, (omega arith, tt)), (chain_shape c, (omega arith, ((omega arith, (omega arith, (omega arith, (omega arith, (omega arith, tt))))), tt))))
shapes (lines.Command (command.Firewall c uid false)) = ((omega arith, (omega arith, tt)), (chain_shape c, (omega arith, ((omega arith, (omega arith, (omega arith, (omega arith, tt)))), tt))))
shapes (lines.Command (command.Replace c uids)) = ((omega arith, (omega arith, (omega arith, (omega arith, (omega arith, (omega arith, (omega arith, tt))))))), (chain_shape c, uids_shape 0 uids))
shapes (lines.Command command.Collect) = ((omega arith, (omega arith, (omega arith, (omega arith, (omega arith, (omega arith, (omega arith, tt))))))), tt)

fields_fit : (l : Line) → IsLine l → AllByRecursion IsField (line_fields l)
fields_fit l h = fields_ok (form l) (shapes l) h

eqb-apart : (a b : ℕ) → (a ≡ b → ⊥) → eqb a b ≡ false
eqb-apart a b apart = elim (eqb_tells a b) [ inl h ↦ absurd (apart h.1) | inr h ↦ h.0 ]

field_lacks : (f : List ℕ) (b : ℕ) → b ≤ 32 → IsField f → AllByRecursion (λ x. eqb x b ≡ false) f
field_lacks [] b le h = tt
field_lacks (x ∷ f) b le h = (eqb-apart x b (λ e. omega (arith, h.0)), field_lacks f b le h.1)

-- ---- the text of fields, and its parts

-- a line's text without its line feed
abbrev pub bare : Line → List ℕ
bare l = join_with_byte 32 (line_fields l)

-- a line's text is its fields, joined, and a line feed
line_text_is : (fs : List (List ℕ)) → line_text fs ≡ join_with_byte 32 fs ++ 10 ∷ []
line_text_is [] = refl
line_text_is (f ∷ []) = refl
line_text_is (f ∷ g ∷ fs) = ap (λ (t : List ℕ). f ++ 32 ∷ t) (line_text_is (g ∷ fs)) ∙ sym (append_assoc f (32 ∷ join_with_byte 32 (g ∷ fs)) (10 ∷ []))

pub line_then : (l : Line) (rest : List ℕ) → spelled l ++ rest ≡ bare l ++ 10 ∷ rest
line_then l rest = ap (λ (t : List ℕ). t ++ rest) (line_text_is (line_fields l)) ∙ append_assoc (bare l) (10 ∷ []) rest

-- the fields of a line are the parts of its text
parts_join : (fs : List (List ℕ)) (f : List ℕ) → AllByRecursion IsField (f ∷ fs) → parts 32 (join_with_byte 32 (f ∷ fs)) ≡ f ∷ fs
parts_join [] f h = slice_split_none (λ b. eqb b 32) f (All-from_recursion (λ x. eqb x 32 ≡ false) f (field_lacks f 32 (omega arith) h.0))
parts_join (g ∷ fs) f h =
    slice_split_at (λ b. eqb b 32) f 32 (join_with_byte 32 (g ∷ fs)) (All-from_recursion (λ x. eqb x 32 ≡ false) f (field_lacks f 32 (omega arith) h.0)) refl ∙ ap (λ (r : List (List ℕ)). f ∷ r) (parts_join fs g h.1)

fields_parts : (fs : List (List ℕ)) → 0 < length fs → AllByRecursion IsField fs → parts 32 (join_with_byte 32 fs) ≡ fs
fields_parts [] some h = absurd (omega arith)
fields_parts (f ∷ fs) some h = parts_join fs f h

some_fields : (l : Line) → 0 < length (line_fields l)
some_fields lines.Version = omega arith
some_fields (lines.Map name n) = omega arith
some_fields (lines.Priv app) = omega arith
some_fields (lines.If iface name) = omega arith
some_fields lines.Section = omega arith
some_fields (lines.Cap bytes) = omega arith
some_fields lines.Lane = omega arith
some_fields (lines.Hook (hooks.Hook dir family uid iface len cookie head)) = omega arith
some_fields (lines.Hook (hooks.Packet dir uid iface index cookie)) = omega arith
some_fields (lines.Hook (hooks.Iface call)) = omega arith
some_fields (lines.Hook (hooks.Allow true uid cookie)) = omega arith
some_fields (lines.Hook (hooks.Allow false uid cookie)) = omega arith
some_fields (lines.Hook (hooks.Deny uid)) = omega arith
some_fields lines.Desk = omega arith
some_fields (lines.Command (command.Tag caller cookie uid tag)) = omega arith
some_fields (lines.Command (command.Untag cookie)) = omega arith
some_fields (lines.Command (command.Set caller uid set)) = omega arith
some_fields (lines.Command (command.Delete caller uid tag)) = omega arith
some_fields (lines.Command (command.Add uid b iface)) = omega arith
some_fields (lines.Command (command.Remove uid b)) = omega arith
some_fields (lines.Command (command.Toggle c true)) = omega arith
some_fields (lines.Command (command.Toggle c false)) = omega arith
some_fields (lines.Command (command.Firewall c uid true)) = omega arith
some_fields (lines.Command (command.Firewall c uid false)) = omega arith
some_fields (lines.Command (command.Replace c uids)) = omega arith
some_fields (lines.Command command.Collect) = omega arith

pub parts_line : (l : Line) → IsLine l → parts 32 (bare l) ≡ line_fields l
parts_line l h = fields_parts (line_fields l) (some_fields l) (fields_fit l h)

-- a text without a line feed
abbrev pub NoFeed : List ℕ → Type 0
NoFeed bs = AllByRecursion (λ b. eqb b 10 ≡ false) bs

pub no_feed_then : (xs ys : List ℕ) → NoFeed xs → NoFeed ys → NoFeed (xs ++ ys)
no_feed_then [] ys p q = q
no_feed_then (x ∷ xs) ys p q = (p.0, no_feed_then xs ys p.1 q)

join_no_feed : (fs : List (List ℕ)) → AllByRecursion IsField fs → NoFeed (join_with_byte 32 fs)
join_no_feed [] h = tt
join_no_feed (f ∷ []) h = field_lacks f 10 (omega arith) h.0
join_no_feed (f ∷ g ∷ fs) h = no_feed_then f (32 ∷ join_with_byte 32 (g ∷ fs)) (field_lacks f 10 (omega arith) h.0) (refl, join_no_feed (g ∷ fs) h.1)

pub bare_no_feed : (l : Line) → IsLine l → NoFeed (bare l)
bare_no_feed l h = join_no_feed (line_fields l) (fields_fit l h)

-- two texts that are the same up to their first line feeds
pub cut_same : (a b x y : List ℕ) → NoFeed a → NoFeed b → a ++ 10 ∷ x ≡ b ++ 10 ∷ y → (a ≡ b) × (x ≡ y)
cut_same [] [] x y p q e = (refl, cc)
cut_same [] (b ∷ bs) x y p q e = absurd (eqb-false b 10 q.0 (cc))
cut_same (a ∷ cs) [] x y p q e = absurd (eqb-false a 10 p.0 (cc))
cut_same (a ∷ cs) (b ∷ bs) x y p q e =
    let same : a ≡ b = cc in
    let rest = cut_same cs bs x y p.1 q.1 (cc) in
    (rw (same, rest.0) refl, rest.1)

pub no_feed_within : (a x : List ℕ) → NoFeed (a ++ 10 ∷ x) → ⊥
no_feed_within [] x h = absurd (let e = h.0 in cc)
no_feed_within (b ∷ a) x h = no_feed_within a x h.1

-- Two texts that are the same and begin with lines begin with the same line.
pub same_first : (l m : Line) (x y : List ℕ) → IsLine l → IsLine m → spelled l ++ x ≡ spelled m ++ y → (l ≡ m) × (x ≡ y)
same_first l m x y p q e =
    let same = cut_same (bare l) (bare m) x y (bare_no_feed l p) (bare_no_feed m q) (sym (line_then l x) ∙ e ∙ line_then m y) in
    (line_same l m p q (sym (parts_line l p) ∙ ap (parts 32) same.0 ∙ parts_line m q), same.1)

-- ---- the first line of a text

-- a text whose first line was read
pub line_read : (text behind all : List ℕ) (l : Line) → all ≡ text ++ 10 ∷ behind → parts 32 text ≡ line_fields l → all ≡ spelled l ++ behind
line_read text behind all l is fields =
    let bytes : text ≡ bare l = sym (join_with_byte-slice_split 32 text) ∙ ap (join_with_byte 32) fields in
    is ∙ ap (λ (t : List ℕ). t ++ 10 ∷ behind) bytes ∙ sym (line_then l behind)

-- a text without a line feed begins with no line
pub no_line_without_feed : (all more : List ℕ) (l : Line) → Lacks all 10 → all ≡ spelled l ++ more → ⊥
no_line_without_feed all more l lacks e =
    no_feed_within (bare l) more (recursion_from_All (λ b. eqb b 10 ≡ false) (bare l ++ 10 ∷ more) (rw (sym (e ∙ line_then l more)) lacks))

-- nor does one whose first line has the fields of none
pub no_line_of_others : (text behind all more : List ℕ) (l : Line) → all ≡ text ++ 10 ∷ behind → Lacks text 10 → ((m : Line) → IsLine m → parts 32 text ≢ line_fields m) → IsLine l → all ≡ spelled l ++ more → ⊥
no_line_of_others text behind all more l is lacks none fits e =
    let same = cut_same text (bare l) behind more (recursion_from_All (λ b. eqb b 10 ≡ false) text lacks) (bare_no_feed l fits) (sym is ∙ e ∙ line_then l more) in
    none l fits (ap (parts 32) same.0 ∙ parts_line l fits)

-- ---- the first line, and its bytes

pub first_line_cut : (a x : List ℕ) → NoFeed a → first_line (a ++ 10 ∷ x) ≡ a ++ 10 ∷ []
first_line_cut [] x h = refl
first_line_cut (b ∷ a) x h = ap (λ (t : List ℕ). b ∷ t) (ap (λ (c : Bool). if c then [] else first_line (a ++ 10 ∷ x)) h.0 ∙ first_line_cut a x h.1)

pub before_feed_cut : (a x : List ℕ) → NoFeed a → before_feed (a ++ 10 ∷ x) ≡ a
before_feed_cut [] x h = refl
before_feed_cut (b ∷ a) x h = ap (λ (c : Bool). if c then [] else b ∷ before_feed (a ++ 10 ∷ x)) h.0 ∙ ap (λ (t : List ℕ). b ∷ t) (before_feed_cut a x h.1)

first_line_whole : (a : List ℕ) → NoFeed a → first_line a ≡ a
first_line_whole [] h = refl
first_line_whole (b ∷ a) h = ap (λ (t : List ℕ). b ∷ t) (ap (λ (c : Bool). if c then [] else first_line a) h.0 ∙ first_line_whole a h.1)

before_feed_whole : (a : List ℕ) → NoFeed a → before_feed a ≡ a
before_feed_whole [] h = refl
before_feed_whole (b ∷ a) h = ap (λ (c : Bool). if c then [] else b ∷ before_feed a) h.0 ∙ ap (λ (t : List ℕ). b ∷ t) (before_feed_whole a h.1)

pub sizes_cut : (rest text behind : List ℕ) → rest ≡ text ++ 10 ∷ behind → Lacks text 10 → (length text ≡ length (before_feed rest)) × (length text + 1 ≡ length (first_line rest))
sizes_cut rest text behind e lacks =
    let none : NoFeed text = recursion_from_All (λ b. eqb b 10 ≡ false) text lacks in
    let bare : before_feed rest ≡ text = ap before_feed e ∙ before_feed_cut text behind none in
    let whole : first_line rest ≡ text ++ 10 ∷ [] = ap first_line e ∙ first_line_cut text behind none in
    (sym (ap length bare), omega (arith, ap length whole, length-append text (10 ∷ [])))

pub sizes_whole : (rest : List ℕ) → Lacks rest 10 → (length rest ≡ length (before_feed rest)) × (length rest ≡ length (first_line rest))
sizes_whole rest lacks =
    let none : NoFeed rest = recursion_from_All (λ b. eqb b 10 ≡ false) rest lacks in
    (sym (ap length (before_feed_whole rest none)), sym (ap length (first_line_whole rest none)))

line_first : (l : Line) (more : List ℕ) → IsLine l → (first_line (spelled l ++ more) ≡ spelled l) × (before_feed (spelled l ++ more) ≡ bare l)
line_first l more h = (
  ap first_line (line_then l more) ∙ first_line_cut (bare l) more (bare_no_feed l h) ∙ sym (line_text_is (line_fields l)),
  ap before_feed (line_then l more) ∙ before_feed_cut (bare l) more (bare_no_feed l h),
)

-- a line passes the same limits on bytes, whatever stands behind it
pub bytes_same : (t : Tally) (l : Line) (more : List ℕ) → IsLine l → passed_by_bytes t (spelled l ++ more) ≡ passed_by_bytes t (spelled l)
bytes_same t l more h =
    let one = line_first l more h in
    let alone = line_first l [] h in
    let text : spelled l ++ [] ≡ spelled l = append-nil (spelled l) in
    let whole : first_line (spelled l ++ more) ≡ first_line (spelled l) = one.0 ∙ sym alone.0 ∙ ap first_line text in
    let part : before_feed (spelled l ++ more) ≡ before_feed (spelled l) = one.1 ∙ sym alone.1 ∙ ap before_feed text in
    λ i. if nat_lt most_bytes (t.bytes + length (whole i)) then Some which.ScriptBytes else if nat_lt 65536 (length (part i)) then Some which.LineBytes else None

pub line_size : (text behind all : List ℕ) (l : Line) → all ≡ text ++ 10 ∷ behind → parts 32 text ≡ line_fields l → length text + 1 ≡ length (spelled l)
line_size text behind all l is fields =
    let bytes : text ≡ bare l = sym (join_with_byte-slice_split 32 text) ∙ ap (join_with_byte 32) fields in
    omega (arith, ap length bytes, ap length (line_text_is (line_fields l)), length-append (bare l) (10 ∷ []))

-- the sizes of a line that stands in front
pub sizes_front : (rest behind : List ℕ) (l : Line) → IsLine l → rest ≡ spelled l ++ behind
    → (length rest - length behind - 1 ≡ length (before_feed rest)) × (length rest - length behind ≡ length (first_line rest)) × (length rest - length behind ≡ length (spelled l))
sizes_front rest behind l fits e =
    let cut : rest ≡ bare l ++ 10 ∷ behind = e ∙ line_then l behind in
    let none = bare_no_feed l fits in
    let part : before_feed rest ≡ bare l = ap before_feed cut ∙ before_feed_cut (bare l) behind none in
    let whole : first_line rest ≡ bare l ++ 10 ∷ [] = ap first_line cut ∙ first_line_cut (bare l) behind none in
    let size = ap length cut ∙ length-append (bare l) (10 ∷ behind) in (
      omega (arith, size, ap length part),
      omega (arith, size, ap length whole, length-append (bare l) (10 ∷ [])),
      omega (arith, ap length e, length-append (spelled l) behind),
    )

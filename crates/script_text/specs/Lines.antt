-- The lines of a script: how each is spelled, and in which ranges its values are.
use Rattle.std.specs.Prelude.{◌≡◌, ℕ, ◌+◌, ◌<◌, ◌≤◌, ◌==◌, ◌&&◌, ◌||◌, Bool, false, nat_le, IsTrue, if◌then◌else◌, List, [], ◌∷◌, map, length, codes, decimal}
use Rattle.std.specs.List.{AllByRecursion, list_all}
use Rattle.hex.specs.Hex.{encode_lower}
use Rattle.acct_base.specs.declared.packet.Dir.{Dir}
use Rattle.acct_base.specs.declared.packet.Dir.TheVariants.{Ingress, Egress}
use Rattle.acct_base.specs.declared.packet.Family.{Family}
use Rattle.acct_base.specs.declared.packet.Family.TheVariants.{V4, V6, Other}
use Rattle.acct_base.specs.Text.{line_text}
use Rattle.desk_core.specs.declared.command.Chain.{Chain}
use Rattle.desk_core.specs.declared.command.Chain.TheVariants as chain
use Rattle.desk_core.specs.declared.command.Bit.{Bit}
use Rattle.desk_core.specs.declared.command.Bit.TheVariants as bit
use Rattle.desk_core.specs.declared.command.Command.{Command}
use Rattle.desk_core.specs.declared.command.Command.TheVariants as command
use Rattle.script_text.specs.declared.map_name.MapName.{MapName}
use Rattle.script_text.specs.declared.map_name.MapName.TheVariants as maps
use Rattle.script_text.specs.declared.hook_line.HookLine.{HookLine}
use Rattle.script_text.specs.declared.hook_line.HookLine.TheVariants as hooks
use Rattle.script_text.specs.declared.line.Line.{Line}
use Rattle.script_text.specs.declared.line.Line.TheVariants as lines

-- A line of a lane as contracts see it: with the first bytes of its packet, wherever they are held.
abbrev pub LaneLine : Type 0
LaneLine = HookLine (List ℕ)

-- ---- words

abbrev pub hook_word : Dir → List ℕ
hook_word Ingress = codes "in"
hook_word Egress = codes "out"

abbrev pub packet_word : Dir → List ℕ
packet_word Ingress = codes "rin"
packet_word Egress = codes "rout"

abbrev pub iface_word : Dir → List ℕ
iface_word Ingress = codes "iin"
iface_word Egress = codes "iout"

abbrev pub family_word : Family → List ℕ
family_word V4 = codes "4"
family_word V6 = codes "6"
family_word Other = codes "o"

abbrev pub map_word : MapName → List ℕ
map_word maps.Rows = codes "rows"
map_word maps.Cookies = codes "cookies"
map_word maps.Sets = codes "sets"
map_word maps.Owners = codes "owners"
map_word maps.Writes = codes "writes"
map_word maps.Apps = codes "apps"
map_word maps.Ifaces = codes "ifaces"

abbrev pub chain_word : Chain → List ℕ
chain_word chain.Dozable = codes "dozable"
chain_word chain.Standby = codes "standby"
chain_word chain.PowerSave = codes "powersave"

abbrev pub bit_word : Bit → List ℕ
bit_word bit.Happy = codes "happy"
bit_word bit.Penalty = codes "penalty"
bit_word bit.Dozable = codes "dozable"
bit_word bit.Standby = codes "standby"
bit_word bit.PowerSave = codes "powersave"
bit_word bit.Iface = codes "iface"

-- ---- fields

-- A field of a line, with the range of its value.
pub data Field : Type 0 where
  Word : (word : List ℕ) → Field
  Number : (least most n : ℕ) → Field
  Hex : (most : ℕ) (bytes : List ℕ) → Field
  Head : (most : ℕ) (bytes : List ℕ) → Field
  Name : (name : List ℕ) → Field

-- The first bytes of a packet: a dash for none, else two lower-case digits for each.
abbrev pub head_word : List ℕ → List ℕ
head_word [] = codes "-"
head_word (b ∷ bs) = encode_lower (b ∷ bs)

-- The text of a field: a number is its decimal text, and bytes are two lower-case digits each.
abbrev pub field_text : Field → List ℕ
field_text (Word word) = word
field_text (Number least most n) = decimal n
field_text (Hex most bytes) = encode_lower bytes
field_text (Head most bytes) = head_word bytes
field_text (Name name) = name

-- A number is in its range.
pub record IsWithin (least most n : ℕ) : Type 0 where
  pub least_is : least ≤ n
  pub most_is : n ≤ most

abbrev pub AreBytes : List ℕ → Type 0
AreBytes bytes = AllByRecursion (λ b. b < 256) bytes

-- The bytes of a `cap` line.
pub record IsHex (most : ℕ) (bytes : List ℕ) : Type 0 where
  pub some : 0 < length bytes
  pub few : length bytes ≤ most
  pub are_bytes : AreBytes bytes

-- The first bytes of a packet: 128 at most, and no more than the packet has.
pub record IsHead (most : ℕ) (bytes : List ℕ) : Type 0 where
  pub few : length bytes ≤ 128
  pub within : length bytes ≤ most
  pub are_bytes : AreBytes bytes

abbrev pub is_within : ℕ → ℕ → ℕ → Bool
is_within least most n = nat_le least n && nat_le n most

abbrev pub is_letter : ℕ → Bool
is_letter c = is_within 65 90 c || is_within 97 122 c

abbrev pub is_name_byte : ℕ → Bool
is_name_byte c = is_letter c || is_within 48 57 c || c == 95 || c == 45 || c == 46

-- The name of an interface: a letter, and then letters, digits, `_`, `-` and `.`, 15 characters at most.
abbrev pub is_name : List ℕ → Bool
is_name [] = false
is_name (c ∷ cs) = is_letter c && nat_le (length (c ∷ cs)) 15 && list_all is_name_byte (c ∷ cs)

-- The value of a field is in its range.
abbrev pub FieldFits : Field → Type 0
FieldFits (Word word) = Unit {0}
FieldFits (Number least most n) = IsWithin least most n
FieldFits (Hex most bytes) = IsHex most bytes
FieldFits (Head most bytes) = IsHead most bytes
FieldFits (Name name) = IsTrue (is_name name)

abbrev pub AllFit : List Field → Type 0
AllFit fs = AllByRecursion FieldFits fs

abbrev pub texts : List Field → List (List ℕ)
texts fs = map field_text fs

-- ---- lines

-- The greatest uid of a script is 4294967294, since 4294967295 stands for no uid.
abbrev pub uid_field : ℕ → Field
uid_field n = Number 0 4294967294 n

abbrev pub cookie_field : ℕ → Field
cookie_field n = Number 0 18446744073709551615 n

abbrev pub number_field : ℕ → Field
number_field n = Number 0 4294967295 n

abbrev pub iface_field : ℕ → Field
iface_field n = Number 1 16777215 n

abbrev pub len_field : ℕ → Field
len_field n = Number 1 262144 n

abbrev pub hook_rest : Family → ℕ → ℕ → ℕ → ℕ → List ℕ → List Field
hook_rest family uid iface len cookie head =
    uid_field uid ∷ cookie_field cookie ∷ iface_field iface ∷ Word (family_word family) ∷ len_field len ∷ Head len head ∷ []

abbrev pub packet_rest : ℕ → ℕ → ℕ → ℕ → List Field
packet_rest uid iface index cookie = uid_field uid ∷ cookie_field cookie ∷ iface_field iface ∷ number_field index ∷ []

abbrev pub iface_rest : ℕ → ℕ → Family → ℕ → List Field
iface_rest uid iface family len = uid_field uid ∷ iface_field iface ∷ Word (family_word family) ∷ len_field len ∷ []

abbrev pub allow_rest : Bool → ℕ → ℕ → List Field
allow_rest received uid cookie = uid_field uid ∷ cookie_field cookie ∷ Word (if received then codes "rx" else codes "tx") ∷ []

abbrev pub hook_form : LaneLine → List Field
hook_form (hooks.Hook dir family uid iface len cookie head) = Word (hook_word dir) ∷ hook_rest family uid iface len cookie head
hook_form (hooks.Packet dir uid iface index cookie) = Word (packet_word dir) ∷ packet_rest uid iface index cookie
hook_form (hooks.Iface call) = Word (iface_word call.dir) ∷ iface_rest call.sock_uid call.iface call.family call.len
hook_form (hooks.Allow received uid cookie) = Word (codes "allow") ∷ allow_rest received uid cookie
hook_form (hooks.Deny uid) = Word (codes "deny") ∷ uid_field uid ∷ []

-- Uids that ascend, each from the one after the last on.
abbrev pub ascending_uids : ℕ → List ℕ → List Field
ascending_uids least [] = []
ascending_uids least (u ∷ us) = Number least 4294967294 u ∷ ascending_uids (u + 1) us

abbrev pub tag_rest : ℕ → ℕ → ℕ → ℕ → List Field
tag_rest caller cookie uid tag = uid_field caller ∷ cookie_field cookie ∷ uid_field uid ∷ number_field tag ∷ []

-- `set CALLER UID SET` and `del CALLER UID TAG`
abbrev pub called_rest : ℕ → ℕ → ℕ → List Field
called_rest caller uid n = uid_field caller ∷ uid_field uid ∷ number_field n ∷ []

abbrev pub add_rest : ℕ → Bit → ℕ → List Field
add_rest uid b iface = uid_field uid ∷ Word (bit_word b) ∷ Number 0 16777215 iface ∷ []

abbrev pub remove_rest : ℕ → Bit → List Field
remove_rest uid b = uid_field uid ∷ Word (bit_word b) ∷ []

abbrev pub toggle_rest : Chain → Bool → List Field
toggle_rest c on = Word (chain_word c) ∷ Word (if on then codes "on" else codes "off") ∷ []

abbrev pub firewall_rest : Chain → ℕ → Bool → List Field
firewall_rest c uid allow = Word (chain_word c) ∷ uid_field uid ∷ Word (if allow then codes "allow" else codes "deny") ∷ []

abbrev pub replace_rest : Chain → List ℕ → List Field
replace_rest c uids = Word (chain_word c) ∷ ascending_uids 0 uids

abbrev pub command_form : Command → List Field
command_form (command.Tag caller cookie uid tag) = Word (codes "tag") ∷ tag_rest caller cookie uid tag
command_form (command.Untag cookie) = Word (codes "untag") ∷ cookie_field cookie ∷ []
command_form (command.Set caller uid set) = Word (codes "set") ∷ called_rest caller uid set
command_form (command.Delete caller uid tag) = Word (codes "del") ∷ called_rest caller uid tag
command_form (command.Add uid b iface) = Word (codes "add") ∷ add_rest uid b iface
command_form (command.Remove uid b) = Word (codes "remove") ∷ remove_rest uid b
command_form (command.Toggle c on) = Word (codes "chain") ∷ toggle_rest c on
command_form (command.Firewall c uid allow) = Word (codes "fw") ∷ firewall_rest c uid allow
command_form (command.Replace c uids) = Word (codes "replace") ∷ replace_rest c uids
command_form command.Collect = Word (codes "collect") ∷ []

-- The most that a `map` line may give.
abbrev pub most_of : MapName → ℕ
most_of maps.Rows = 5000
most_of maps.Cookies = 262144
most_of maps.Sets = 65536
most_of maps.Owners = 65536
most_of maps.Writes = 262144
most_of maps.Apps = 65536
most_of maps.Ifaces = 65536

abbrev pub map_rest : MapName → ℕ → List Field
map_rest name n = Word (map_word name) ∷ Number 1 (most_of name) n ∷ []

abbrev pub name_rest : ℕ → List ℕ → List Field
name_rest iface name = iface_field iface ∷ Name name ∷ []

-- The fields of a line.
abbrev pub form : Line → List Field
form lines.Version = Word (codes "netacct") ∷ Word (codes "1") ∷ []
form (lines.Map name n) = Word (codes "map") ∷ map_rest name n
form (lines.Priv app) = Word (codes "priv") ∷ Number 0 99999 app ∷ []
form (lines.If iface name) = Word (codes "if") ∷ name_rest iface name
form lines.Section = Word (codes "section") ∷ []
form (lines.Cap bytes) = Word (codes "cap") ∷ Hex 512 bytes ∷ []
form lines.Lane = Word (codes "lane") ∷ []
form (lines.Hook h) = hook_form h
form lines.Desk = Word (codes "desk") ∷ []
form (lines.Command c) = command_form c

-- The texts of a line's fields.
abbrev pub line_fields : Line → List (List ℕ)
line_fields l = texts (form l)

-- The line's values are in their ranges.
abbrev pub IsLine : Line → Type 0
IsLine l = AllFit (form l)

-- A line's text: its fields with one space between two, and a line feed.
abbrev pub spelled : Line → List ℕ
spelled l = line_text (line_fields l)

-- The fields spell a line, or they spell none.
abbrev pub Spells : Line → List (List ℕ) → Type 0
Spells l fields = IsLine l × (fields ≡ line_fields l)

abbrev pub SpellsNone : List (List ℕ) → Type 0
SpellsNone fields = (l : Line) → IsLine l → fields ≡ line_fields l → ⊥

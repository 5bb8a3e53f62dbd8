-- A line is told by its fields: from its first word, and from the texts behind it.
use Rattle.std.proofs.Common.{◌≡◌, ℕ, ◌+◌, ◌^◌, ◌<◌, Bool, true, false, List, [], ◌∷◌, map, refl, sym, ap, subst, ◌∙◌, arith}
use Rattle.std.specs.Prelude.{codes, if◌then◌else◌, bytes_eq, Result, Ok, Err}
use Rattle.std.specs.Fmt.{decimal}
use Rattle.std.specs.Str.Parse.{digits_value}
use Rattle.std.proofs.lemmas.Fmt.{decimal_is_IsNumeral}
use Rattle.hex.specs.Hex.{encode_lower, encode_with, decode_of}
use Rattle.hex.specs.declared.error.FromHexError.{FromHexError}
use Rattle.hex.proofs.HexLemmas.{decode_of-encode_lower}
use Rattle.acct_base.specs.declared.packet.Dir.{Dir}
use Rattle.acct_base.specs.declared.packet.Dir.TheVariants.{Ingress, Egress}
use Rattle.acct_base.specs.declared.packet.Family.{Family}
use Rattle.acct_base.specs.declared.packet.Family.TheVariants.{V4, V6, Other}
use Rattle.desk_core.specs.declared.command.Chain.{Chain}
use Rattle.desk_core.specs.declared.command.Chain.TheVariants as chain
use Rattle.desk_core.specs.declared.command.Bit.{Bit}
use Rattle.desk_core.specs.declared.command.Bit.TheVariants as bit
use Rattle.desk_core.specs.declared.command.Command.{Command}
use Rattle.desk_core.specs.declared.command.Command.TheVariants as command
use Rattle.script_text.specs.declared.map_name.MapName.{MapName}
use Rattle.script_text.specs.declared.map_name.MapName.TheVariants as maps
use Rattle.script_text.specs.declared.hook_line.HookLine.TheVariants as hooks
use Rattle.script_text.specs.declared.line.Line.{Line}
use Rattle.script_text.specs.declared.line.Line.TheVariants as lines
use Rattle.script_text.specs.declared.kind.Kind.{Kind}
use Rattle.script_text.specs.declared.kind.Kind.TheVariants as kinds
use Rattle.script_text.specs.Kinds.{kind_word}
use Rattle.script_text.specs.Lines.{IsLine, SpellsNone, IsWithin, IsHex, IsHead, AreBytes, AllFit, texts, line_fields, ascending_uids, family_word, chain_word, bit_word, map_word, head_word, most_of, iface_rest, LaneLine}
use Rattle.script_text.proofs.HexFields.{to_bytes}

-- ---- words back

abbrev family_back : List ℕ → Family
family_back w = if bytes_eq w (codes "4") then V4 else if bytes_eq w (codes "6") then V6 else Other

family_same : (f : Family) → family_back (family_word f) ≡ f
family_same V4 = refl
family_same V6 = refl
family_same Other = refl

abbrev chain_back : List ℕ → Chain
chain_back w = if bytes_eq w (codes "dozable") then chain.Dozable else if bytes_eq w (codes "standby") then chain.Standby else chain.PowerSave

chain_same : (c : Chain) → chain_back (chain_word c) ≡ c
chain_same chain.Dozable = refl
chain_same chain.Standby = refl
chain_same chain.PowerSave = refl

abbrev bit_back : List ℕ → Bit
bit_back w =
    if bytes_eq w (codes "happy") then bit.Happy else if bytes_eq w (codes "penalty") then bit.Penalty else if bytes_eq w (codes "dozable") then bit.Dozable
    else if bytes_eq w (codes "standby") then bit.Standby else if bytes_eq w (codes "powersave") then bit.PowerSave else bit.Iface

bit_same : (b : Bit) → bit_back (bit_word b) ≡ b
bit_same bit.Happy = refl
bit_same bit.Penalty = refl
bit_same bit.Dozable = refl
bit_same bit.Standby = refl
bit_same bit.PowerSave = refl
bit_same bit.Iface = refl

abbrev map_back : List ℕ → MapName
map_back w =
    if bytes_eq w (codes "rows") then maps.Rows else if bytes_eq w (codes "cookies") then maps.Cookies else if bytes_eq w (codes "sets") then maps.Sets
    else if bytes_eq w (codes "owners") then maps.Owners else if bytes_eq w (codes "writes") then maps.Writes else if bytes_eq w (codes "apps") then maps.Apps else maps.Ifaces

map_same : (m : MapName) → map_back (map_word m) ≡ m
map_same maps.Rows = refl
map_same maps.Cookies = refl
map_same maps.Sets = refl
map_same maps.Owners = refl
map_same maps.Writes = refl
map_same maps.Apps = refl
map_same maps.Ifaces = refl

rx_same : (b : Bool) → bytes_eq (if b then codes "rx" else codes "tx") (codes "rx") ≡ b
rx_same true = refl
rx_same false = refl

on_same : (b : Bool) → bytes_eq (if b then codes "on" else codes "off") (codes "on") ≡ b
on_same true = refl
on_same false = refl

allow_same : (b : Bool) → bytes_eq (if b then codes "allow" else codes "deny") (codes "allow") ≡ b
allow_same true = refl
allow_same false = refl

-- ---- values back

abbrev num : List ℕ → ℕ
num w = digits_value 10 w

num_same : (least most n : ℕ) → most < 2 ^ 64 → IsWithin least most n → num (decimal n) ≡ n
num_same least most n lt h = (decimal_is_IsNumeral n (omega (arith, h.most_is))).1

abbrev bytes_or_none : Result (List ℕ) FromHexError → List ℕ
bytes_or_none (Ok bs) = bs
bytes_or_none (Err e) = []

abbrev hex_back : List ℕ → List ℕ
hex_back w = bytes_or_none (decode_of w)

hex_same : (bs : List ℕ) → AreBytes bs → hex_back (encode_lower bs) ≡ bs
hex_same bs h = ap bytes_or_none (decode_of-encode_lower bs (to_bytes bs h))

abbrev head_back : List ℕ → List ℕ
head_back [] = []
head_back (c ∷ []) = []
head_back (c ∷ d ∷ more) = hex_back (c ∷ d ∷ more)

head_same : (bs : List ℕ) → AreBytes bs → head_back (head_word bs) ≡ bs
unfolding encode_with
head_same [] h = refl
head_same (b ∷ bs) h = hex_same (b ∷ bs) h

uids_same : (from : ℕ) (us : List ℕ) → AllFit (ascending_uids from us) → map num (texts (ascending_uids from us)) ≡ us
uids_same from [] h = refl
uids_same from (u ∷ us) h = λ i. num_same from 4294967294 u (omega arith) h.0 i ∷ uids_same (u + 1) us h.1 i

-- ---- the kind of a line

hook_kind : Dir → Kind
hook_kind Ingress = kinds.In
hook_kind Egress = kinds.Out

abbrev by_dir : {A : Type 0} → Dir → A → A → A
by_dir Ingress a b = a
by_dir Egress a b = b

abbrev hook_line_kind : LaneLine → Kind
hook_line_kind (hooks.Hook dir family uid iface len cookie head) = by_dir dir kinds.In kinds.Out
hook_line_kind (hooks.Packet dir uid iface index cookie) = by_dir dir kinds.Rin kinds.Rout
hook_line_kind (hooks.Iface call) = by_dir call.dir kinds.Iin kinds.Iout
hook_line_kind (hooks.Allow received uid cookie) = kinds.Allow
hook_line_kind (hooks.Deny uid) = kinds.Deny

abbrev command_kind : Command → Kind
command_kind (command.Tag caller cookie uid tag) = kinds.Tag
command_kind (command.Untag cookie) = kinds.Untag
command_kind (command.Set caller uid set) = kinds.Set
command_kind (command.Delete caller uid tag) = kinds.Del
command_kind (command.Add uid b iface) = kinds.Add
command_kind (command.Remove uid b) = kinds.Remove
command_kind (command.Toggle c on) = kinds.Chain
command_kind (command.Firewall c uid allow) = kinds.Fw
command_kind (command.Replace c uids) = kinds.Replace
command_kind command.Collect = kinds.Collect

abbrev kind : Line → Kind
kind lines.Version = kinds.Netacct
kind (lines.Map name n) = kinds.Map
kind (lines.Priv app) = kinds.Priv
kind (lines.If iface name) = kinds.If
kind lines.Section = kinds.Section
kind (lines.Cap bytes) = kinds.Cap
kind lines.Lane = kinds.Lane
kind (lines.Hook h) = hook_line_kind h
kind lines.Desk = kinds.Desk
kind (lines.Command c) = command_kind c

abbrev first : List (List ℕ) → List ℕ
first [] = []
first (f ∷ fs) = f

abbrev behind : List (List ℕ) → List (List ℕ)
behind [] = []
behind (f ∷ fs) = fs

-- the first field of a line is its kind's word
first_word : (l : Line) → first (line_fields l) ≡ kind_word (kind l)
first_word lines.Version = refl
first_word (lines.Map name n) = refl
first_word (lines.Priv app) = refl
first_word (lines.If iface name) = refl
first_word lines.Section = refl
first_word (lines.Cap bytes) = refl
first_word lines.Lane = refl
first_word (lines.Hook (hooks.Hook Ingress family uid iface len cookie head)) = refl
first_word (lines.Hook (hooks.Hook Egress family uid iface len cookie head)) = refl
first_word (lines.Hook (hooks.Packet Ingress uid iface index cookie)) = refl
first_word (lines.Hook (hooks.Packet Egress uid iface index cookie)) = refl
first_word (lines.Hook (hooks.Iface call)) = iface_first call.dir
  where
    iface_first : (dir : Dir) → Rattle.script_text.specs.Lines.iface_word dir ≡ kind_word (by_dir dir kinds.Iin kinds.Iout)
    iface_first Ingress = refl
    iface_first Egress = refl
first_word (lines.Hook (hooks.Allow received uid cookie)) = refl
first_word (lines.Hook (hooks.Deny uid)) = refl
first_word lines.Desk = refl
first_word (lines.Command (command.Tag caller cookie uid tag)) = refl
first_word (lines.Command (command.Untag cookie)) = refl
first_word (lines.Command (command.Set caller uid set)) = refl
first_word (lines.Command (command.Delete caller uid tag)) = refl
first_word (lines.Command (command.Add uid b iface)) = refl
first_word (lines.Command (command.Remove uid b)) = refl
first_word (lines.Command (command.Toggle c on)) = refl
first_word (lines.Command (command.Firewall c uid allow)) = refl
first_word (lines.Command (command.Replace c uids)) = refl
first_word (lines.Command command.Collect) = refl

-- the line that a kind and the texts behind its word make
abbrev line_of : Kind → List (List ℕ) → Line
line_of kinds.In fs = lines.Hook (hooks.Hook Ingress (family_back (first (behind (behind (behind fs))))) (num (first fs)) (num (first (behind (behind fs)))) (num (first (behind (behind (behind (behind fs)))))) (num (first (behind fs))) (head_back (first (behind (behind (behind (behind (behind fs))))))))
line_of kinds.Out fs = lines.Hook (hooks.Hook Egress (family_back (first (behind (behind (behind fs))))) (num (first fs)) (num (first (behind (behind fs)))) (num (first (behind (behind (behind (behind fs)))))) (num (first (behind fs))) (head_back (first (behind (behind (behind (behind (behind fs))))))))
line_of kinds.Rin fs = lines.Hook (hooks.Packet Ingress (num (first fs)) (num (first (behind (behind fs)))) (num (first (behind (behind (behind fs))))) (num (first (behind fs))))
line_of kinds.Rout fs = lines.Hook (hooks.Packet Egress (num (first fs)) (num (first (behind (behind fs)))) (num (first (behind (behind (behind fs))))) (num (first (behind fs))))
line_of kinds.Iin fs = lines.Hook (hooks.Iface (record { dir = Ingress; sock_uid = num (first fs); iface = num (first (behind fs)); family = family_back (first (behind (behind fs))); len = num (first (behind (behind (behind fs)))) }))
line_of kinds.Iout fs = lines.Hook (hooks.Iface (record { dir = Egress; sock_uid = num (first fs); iface = num (first (behind fs)); family = family_back (first (behind (behind fs))); len = num (first (behind (behind (behind fs)))) }))
line_of kinds.Allow fs = lines.Hook (hooks.Allow (bytes_eq (first (behind (behind fs))) (codes "rx")) (num (first fs)) (num (first (behind fs))))
line_of kinds.Deny fs = lines.Hook (hooks.Deny (num (first fs)))
line_of kinds.Section fs = lines.Section
line_of kinds.Lane fs = lines.Lane
line_of kinds.Cap fs = lines.Cap (hex_back (first fs))
line_of kinds.Desk fs = lines.Desk
line_of kinds.Tag fs = lines.Command (command.Tag (num (first fs)) (num (first (behind fs))) (num (first (behind (behind fs)))) (num (first (behind (behind (behind fs))))))
line_of kinds.Untag fs = lines.Command (command.Untag (num (first fs)))
line_of kinds.Set fs = lines.Command (command.Set (num (first fs)) (num (first (behind fs))) (num (first (behind (behind fs)))))
line_of kinds.Del fs = lines.Command (command.Delete (num (first fs)) (num (first (behind fs))) (num (first (behind (behind fs)))))
line_of kinds.Add fs = lines.Command (command.Add (num (first fs)) (bit_back (first (behind fs))) (num (first (behind (behind fs)))))
line_of kinds.Remove fs = lines.Command (command.Remove (num (first fs)) (bit_back (first (behind fs))))
line_of kinds.Chain fs = lines.Command (command.Toggle (chain_back (first fs)) (bytes_eq (first (behind fs)) (codes "on")))
line_of kinds.Fw fs = lines.Command (command.Firewall (chain_back (first fs)) (num (first (behind fs))) (bytes_eq (first (behind (behind fs))) (codes "allow")))
line_of kinds.Replace fs = lines.Command (command.Replace (chain_back (first fs)) (map num (behind fs)))
line_of kinds.Collect fs = lines.Command command.Collect
line_of kinds.Netacct fs = lines.Version
line_of kinds.Map fs = lines.Map (map_back (first fs)) (num (first (behind fs)))
line_of kinds.Priv fs = lines.Priv (num (first fs))
line_of kinds.If fs = lines.If (num (first fs)) (first (behind fs))

uid_same : (n : ℕ) → IsWithin 0 4294967294 n → num (decimal n) ≡ n
uid_same n h = num_same 0 4294967294 n (omega arith) h

cookie_same : (n : ℕ) → IsWithin 0 18446744073709551615 n → num (decimal n) ≡ n
cookie_same n h = num_same 0 18446744073709551615 n (omega arith) h

number_same : (n : ℕ) → IsWithin 0 4294967295 n → num (decimal n) ≡ n
number_same n h = num_same 0 4294967295 n (omega arith) h

iface_same : (n : ℕ) → IsWithin 1 16777215 n → num (decimal n) ≡ n
iface_same n h = num_same 1 16777215 n (omega arith) h

len_same : (n : ℕ) → IsWithin 1 262144 n → num (decimal n) ≡ n
len_same n h = num_same 1 262144 n (omega arith) h

size_small : (m : MapName) → most_of m < 2 ^ 64
size_small maps.Rows = omega arith
size_small maps.Cookies = omega arith
size_small maps.Sets = omega arith
size_small maps.Owners = omega arith
size_small maps.Writes = omega arith
size_small maps.Apps = omega arith
size_small maps.Ifaces = omega arith

iface_line_same : (d : Dir) (u i : ℕ) (f : Family) (l : ℕ) → IsWithin 0 4294967294 u → IsWithin 1 16777215 i → IsWithin 1 262144 l
    → line_of (by_dir d kinds.Iin kinds.Iout) (texts (iface_rest u i f l)) ≡ lines.Hook (hooks.Iface (record { dir = d; sock_uid = u; iface = i; family = f; len = l }))
iface_line_same Ingress u i f l p q r =
    λ j. lines.Hook (hooks.Iface (record { dir = Ingress; sock_uid = uid_same u p j; iface = iface_same i q j; family = family_same f j; len = len_same l r j }))
iface_line_same Egress u i f l p q r =
    λ j. lines.Hook (hooks.Iface (record { dir = Egress; sock_uid = uid_same u p j; iface = iface_same i q j; family = family_same f j; len = len_same l r j }))

line_back : (l : Line) → IsLine l → line_of (kind l) (behind (line_fields l)) ≡ l
line_back lines.Version p = refl
line_back (lines.Map name n) p = λ j. lines.Map (map_same name j) (num_same 1 (most_of name) n (size_small name) p.1.1.0 j)
line_back (lines.Priv app) p = λ j. lines.Priv (num_same 0 99999 app (omega arith) p.1.0 j)
line_back (lines.If iface name) p = λ j. lines.If (iface_same iface p.1.0 j) name
line_back lines.Section p = refl
line_back (lines.Cap bytes) p = λ j. lines.Cap (hex_same bytes p.1.0.are_bytes j)
line_back lines.Lane p = refl
line_back (lines.Hook (hooks.Hook Ingress f u i l c h)) p =
    λ j. lines.Hook (hooks.Hook Ingress (family_same f j) (uid_same u p.1.0 j) (iface_same i p.1.1.1.0 j) (len_same l p.1.1.1.1.1.0 j) (cookie_same c p.1.1.0 j) (head_same h p.1.1.1.1.1.1.0.are_bytes j))
line_back (lines.Hook (hooks.Hook Egress f u i l c h)) p =
    λ j. lines.Hook (hooks.Hook Egress (family_same f j) (uid_same u p.1.0 j) (iface_same i p.1.1.1.0 j) (len_same l p.1.1.1.1.1.0 j) (cookie_same c p.1.1.0 j) (head_same h p.1.1.1.1.1.1.0.are_bytes j))
line_back (lines.Hook (hooks.Packet Ingress u i k c)) p = λ j. lines.Hook (hooks.Packet Ingress (uid_same u p.1.0 j) (iface_same i p.1.1.1.0 j) (number_same k p.1.1.1.1.0 j) (cookie_same c p.1.1.0 j))
line_back (lines.Hook (hooks.Packet Egress u i k c)) p = λ j. lines.Hook (hooks.Packet Egress (uid_same u p.1.0 j) (iface_same i p.1.1.1.0 j) (number_same k p.1.1.1.1.0 j) (cookie_same c p.1.1.0 j))
line_back (lines.Hook (hooks.Iface call)) p = iface_line_same call.dir call.sock_uid call.iface call.family call.len p.1.0 p.1.1.0 p.1.1.1.1.0
line_back (lines.Hook (hooks.Allow received u c)) p = λ j. lines.Hook (hooks.Allow (rx_same received j) (uid_same u p.1.0 j) (cookie_same c p.1.1.0 j))
line_back (lines.Hook (hooks.Deny u)) p = λ j. lines.Hook (hooks.Deny (uid_same u p.1.0 j))
line_back lines.Desk p = refl
line_back (lines.Command (command.Tag a c u t)) p = λ j. lines.Command (command.Tag (uid_same a p.1.0 j) (cookie_same c p.1.1.0 j) (uid_same u p.1.1.1.0 j) (number_same t p.1.1.1.1.0 j))
line_back (lines.Command (command.Untag c)) p = λ j. lines.Command (command.Untag (cookie_same c p.1.0 j))
line_back (lines.Command (command.Set a u s)) p = λ j. lines.Command (command.Set (uid_same a p.1.0 j) (uid_same u p.1.1.0 j) (number_same s p.1.1.1.0 j))
line_back (lines.Command (command.Delete a u t)) p = λ j. lines.Command (command.Delete (uid_same a p.1.0 j) (uid_same u p.1.1.0 j) (number_same t p.1.1.1.0 j))
line_back (lines.Command (command.Add u b i)) p = λ j. lines.Command (command.Add (uid_same u p.1.0 j) (bit_same b j) (num_same 0 16777215 i (omega arith) p.1.1.1.0 j))
line_back (lines.Command (command.Remove u b)) p = λ j. lines.Command (command.Remove (uid_same u p.1.0 j) (bit_same b j))
line_back (lines.Command (command.Toggle c on)) p = λ j. lines.Command (command.Toggle (chain_same c j) (on_same on j))
line_back (lines.Command (command.Firewall c u allow)) p = λ j. lines.Command (command.Firewall (chain_same c j) (uid_same u p.1.1.0 j) (allow_same allow j))
line_back (lines.Command (command.Replace c us)) p = λ j. lines.Command (command.Replace (chain_same c j) (uids_same 0 us p.1.1 j))
line_back (lines.Command command.Collect) p = refl

-- ---- the kind back from its word

abbrev kind_back : List ℕ → Kind
kind_back w =
    if bytes_eq w (codes "in") then kinds.In
    else if bytes_eq w (codes "out") then kinds.Out
    else if bytes_eq w (codes "rin") then kinds.Rin
    else if bytes_eq w (codes "rout") then kinds.Rout
    else if bytes_eq w (codes "iin") then kinds.Iin
    else if bytes_eq w (codes "iout") then kinds.Iout
    else if bytes_eq w (codes "allow") then kinds.Allow
    else if bytes_eq w (codes "deny") then kinds.Deny
    else if bytes_eq w (codes "section") then kinds.Section
    else if bytes_eq w (codes "lane") then kinds.Lane
    else if bytes_eq w (codes "cap") then kinds.Cap
    else if bytes_eq w (codes "desk") then kinds.Desk
    else if bytes_eq w (codes "tag") then kinds.Tag
    else if bytes_eq w (codes "untag") then kinds.Untag
    else if bytes_eq w (codes "set") then kinds.Set
    else if bytes_eq w (codes "del") then kinds.Del
    else if bytes_eq w (codes "add") then kinds.Add
    else if bytes_eq w (codes "remove") then kinds.Remove
    else if bytes_eq w (codes "chain") then kinds.Chain
    else if bytes_eq w (codes "fw") then kinds.Fw
    else if bytes_eq w (codes "replace") then kinds.Replace
    else if bytes_eq w (codes "collect") then kinds.Collect
    else if bytes_eq w (codes "netacct") then kinds.Netacct
    else if bytes_eq w (codes "map") then kinds.Map
    else if bytes_eq w (codes "priv") then kinds.Priv
    else kinds.If

kind_same : (k : Kind) → kind_back (kind_word k) ≡ k
kind_same kinds.In = refl
kind_same kinds.Out = refl
kind_same kinds.Rin = refl
kind_same kinds.Rout = refl
kind_same kinds.Iin = refl
kind_same kinds.Iout = refl
kind_same kinds.Allow = refl
kind_same kinds.Deny = refl
kind_same kinds.Section = refl
kind_same kinds.Lane = refl
kind_same kinds.Cap = refl
kind_same kinds.Desk = refl
kind_same kinds.Tag = refl
kind_same kinds.Untag = refl
kind_same kinds.Set = refl
kind_same kinds.Del = refl
kind_same kinds.Add = refl
kind_same kinds.Remove = refl
kind_same kinds.Chain = refl
kind_same kinds.Fw = refl
kind_same kinds.Replace = refl
kind_same kinds.Collect = refl
kind_same kinds.Netacct = refl
kind_same kinds.Map = refl
kind_same kinds.Priv = refl
kind_same kinds.If = refl

-- the line that fields spell, if they spell one
abbrev unread : List (List ℕ) → Line
unread fs = line_of (kind_back (first fs)) (behind fs)

unread_line : (l : Line) → IsLine l → unread (line_fields l) ≡ l
unread_line l p =
    ap (λ (w : List ℕ). line_of (kind_back w) (behind (line_fields l))) (first_word l) ∙ ap (λ (k : Kind). line_of k (behind (line_fields l))) (kind_same (kind l)) ∙ line_back l p

-- lines with the same fields are the same
pub line_same : (l m : Line) → IsLine l → IsLine m → line_fields l ≡ line_fields m → l ≡ m
line_same l m p q e = sym (unread_line l p) ∙ ap unread e ∙ unread_line m q

-- fields with a kind's word spell no line, if they do not spell the one that they make
pub spells_none : (k : Kind) (fs : List (List ℕ)) → (IsLine (line_of k fs) → kind_word k ∷ fs ≡ line_fields (line_of k fs) → ⊥) → SpellsNone (kind_word k ∷ fs)
spells_none k fs none l p e =
    let same : line_of k fs ≡ l = sym (ap (λ (j : Kind). line_of j fs) (kind_same k)) ∙ ap unread e ∙ unread_line l p in
    none (subst IsLine (sym same) p) (e ∙ ap line_fields (sym same))

-- nor do fields whose first is the word of no kind
pub no_kind : (w : List ℕ) (fs : List (List ℕ)) → ((k : Kind) → w ≡ kind_word k → ⊥) → SpellsNone (w ∷ fs)
no_kind w fs none l p e = none (kind l) (ap first e ∙ first_word l)

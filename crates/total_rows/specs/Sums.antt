-- What adds come to, number by number. The numbers of a row are packets and bytes received, then packets and bytes sent.
use Rattle.std.specs.Prelude.{ℕ, ◌+◌, ◌*◌, max, Bool, ◌&&◌, nat_eq, cond, List, [], ◌∷◌}
use Rattle.acct_base.specs.declared.packet.Dir.{Dir}
use Rattle.acct_base.specs.declared.packet.Dir.TheVariants.{Ingress, Egress}
use Rattle.acct_base.specs.Landings.{is_row}
use Rattle.total_rows.specs.declared.plan.Job.{Job}
use Rattle.total_rows.specs.declared.plan.Addition.{Addition}
use Rattle.total_rows.specs.declared.plan.Note.{Note}
use Rattle.total_rows.specs.declared.plan.Note.TheVariants.{Number, Adds}
use Rattle.total_rows.specs.declared.plan.View.{View}
use Rattle.total_rows.specs.declared.plan.Stage.{Stage}
use Rattle.total_rows.specs.declared.plan.Stage.TheVariants.{Idle, Probing, Row, Half, Looking, Reading}

-- The direction's half of a row.
abbrev pub side : Dir → ℕ
side Ingress = 0
side Egress = 1

abbrev pub if_is : Bool → ℕ → ℕ
if_is b n = cond b n 0

-- What a job's packets, and its bytes, bring to a number.
abbrev pub packets_in : Job → ℕ → ℕ
packets_in j c = if_is (nat_eq c (2 * side j.dir)) j.packets

abbrev pub bytes_in : Job → ℕ → ℕ
bytes_in j c = if_is (nat_eq c (2 * side j.dir + 1)) j.bytes

-- What landed adds bring to a number of a key.
abbrev pub added : ℕ → ℕ → List Addition → ℕ
added key c [] = 0
added key c (a ∷ rest) = if_is (is_row a.landed && nat_eq a.job.key key) (packets_in a.job c + bytes_in a.job c) + added key c rest

-- What is in the row of an add under way: its packets, once they are added.
abbrev pub under_way : ℕ → ℕ → Stage → ℕ
under_way key c (Half j t) = if_is (nat_eq j.key key) (packets_in j c)
under_way key c (Row j t) = 0
under_way key c (Probing j t) = 0
under_way key c (Looking k t) = 0
under_way key c (Reading k t) = 0
under_way key c Idle = 0

-- A seat's part of a number of a key.
abbrev pub part : ℕ → ℕ → View → ℕ
part key c v = added key c v.adds + under_way key c v.stage

-- How many of these adds landed on a key.
abbrev pub landings : ℕ → List Addition → ℕ
landings key [] = 0
landings key (a ∷ rest) = if_is (is_row a.landed && nat_eq a.job.key key) 1 + landings key rest

-- A seat stands at a key's row, to add to it.
abbrev pub stands_at : ℕ → Stage → ℕ
stands_at key (Half j t) = if_is (nat_eq j.key key) 1
stands_at key (Row j t) = if_is (nat_eq j.key key) 1
stands_at key (Probing j t) = 0
stands_at key (Looking k t) = 0
stands_at key (Reading k t) = 0
stands_at key Idle = 0

-- What a seat has a key's row for.
abbrev pub uses : ℕ → View → ℕ
uses key v = landings key v.adds + stands_at key v.stage

-- The greatest that notes tell of a number of a key.
abbrev pub noted : ℕ → ℕ → Note → ℕ
noted key c (Number k d n) = if_is (nat_eq k key && nat_eq d c) n
noted key c (Adds l) = added key c l

abbrev pub most : ℕ → ℕ → List Note → ℕ
most key c [] = 0
most key c (n ∷ rest) = max (noted key c n) (most key c rest)

-- What a seat knows of a number of a key: the greatest that it noted, and at least the sum of its own landed adds.
abbrev pub knows : ℕ → ℕ → View → ℕ
knows key c v = max (most key c v.notes) (added key c v.adds)

-- A bare seat of the table, before and after a step.
use Rattle.std.specs.Prelude.{◌≡◌, true, false, []}
use Rattle.atomic_table.specs.Seated.{TableId}
use Rattle.atomic_table.specs.declared.shared.Seat.{Seat}
use Rattle.grace_rows.specs.declared.rule.Sight.{Sight}
use Rattle.grace_rows.specs.declared.rule.Try.{Try}
use Rattle.grace_rows.specs.Sights.{is_hook}

-- A hook's seat of this table, which holds no slot.
abbrev pub IsHookOf : TableId → Seat Try Sight → Type 0
IsHookOf table seat = (seat.table_id ≡ table) × (is_hook seat.me.0 ≡ true) × (seat.me.1 ≡ [])

-- The collector's seat of this table, which was the first one and holds no slot.
abbrev pub IsCollectorOf : TableId → Seat Try Sight → Type 0
IsCollectorOf table seat = (seat.table_id ≡ table) × (is_hook seat.me.0 ≡ false) × (seat.me.1 ≡ []) × (seat.id ≡ 0)

-- A step leaves a seat the same one, without slots.
abbrev pub IsSameSeat : Seat Try Sight → Seat Try Sight → Type 0
IsSameSeat old new = (new.table_id ≡ old.table_id) × (new.id ≡ old.id) × (new.me.1 ≡ [])

-- A step leaves a hook's seat the same one, and a hook's.
abbrev pub IsSameHook : Seat Try Sight → Seat Try Sight → Type 0
IsSameHook old new = (new.table_id ≡ old.table_id) × (new.id ≡ old.id) × (is_hook new.me.0 ≡ true) × (new.me.1 ≡ [])

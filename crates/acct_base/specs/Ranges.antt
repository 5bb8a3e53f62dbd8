-- The numbers that calls and sizes may have.
use Rattle.std.specs.Prelude.{◌<◌, ◌≤◌, ◌^◌}
use Rattle.acct_base.specs.declared.packet.IfaceIn.{IfaceIn}
use Rattle.acct_base.specs.declared.sizes.RegSizes.{RegSizes}
use Rattle.acct_base.specs.declared.sizes.Sizes.{Sizes}
use Rattle.acct_base.specs.Receipts.{Call, HookCall}
use Rattle.acct_base.specs.Receipts.Call.{Hook, Iface, Allow, Deny}

-- A packet at a hook: its uid, its interface and its length are within their ranges.
pub record IsHookInRange (c : HookCall) : Type 0 where
  pub uid : c.sock_uid < 4294967295
  pub some_iface : 1 ≤ c.iface
  pub iface : c.iface ≤ 16777215
  pub some_len : 1 ≤ c.len
  pub len : c.len ≤ 262144

-- A packet at an interface program.
pub record IsIfaceInRange (c : IfaceIn) : Type 0 where
  pub uid : c.sock_uid < 4294967295
  pub some_iface : 1 ≤ c.iface
  pub iface : c.iface ≤ 16777215
  pub some_len : 1 ≤ c.len
  pub len : c.len ≤ 262144

-- A call of a lane.
abbrev pub IsCallInRange : Call → Type 0
IsCallInRange (Hook c) = IsHookInRange c
IsCallInRange (Iface c) = IsIfaceInRange c
IsCallInRange (Allow sock_uid cookie received) = sock_uid < 4294967295
IsCallInRange (Deny sock_uid) = sock_uid < 4294967295

-- The sizes that registers can be made with.
pub record AreRegSizes (sizes : RegSizes) : Type 0 where
  pub some_cookies : 1 ≤ sizes.cookies
  pub most_cookies : sizes.cookies ≤ 262144
  pub some_sets : 1 ≤ sizes.sets
  pub most_sets : sizes.sets ≤ 65536
  pub some_owners : 1 ≤ sizes.owners
  pub most_owners : sizes.owners ≤ 65536
  pub some_writes : 1 ≤ sizes.writes
  pub most_writes : sizes.writes ≤ 262144

-- The sizes that an engine's tables can be made with.
pub record AreSizes (sizes : Sizes) : Type 0 where
  pub some_rows : 1 ≤ sizes.rows
  pub most_rows : sizes.rows ≤ 5000
  pub regs : AreRegSizes sizes.regs
  pub some_apps : 1 ≤ sizes.apps
  pub most_apps : sizes.apps ≤ 65536
  pub some_ifaces : 1 ≤ sizes.ifaces
  pub most_ifaces : sizes.ifaces ≤ 65536
  pub some_calls : 1 ≤ sizes.calls
  pub most_calls : sizes.calls ≤ 2 ^ 28

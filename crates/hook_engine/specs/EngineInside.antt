-- How an engine shows what it has.
use Rattle.std.specs.Prelude.{◌≡◌}
use Rattle.acct_base.specs.Ranges.{AreSizes}
use Rattle.hook_engine.specs.declared.engine.Engine.TheInside.{Inside}
use Rattle.hook_engine.specs.Tables.{EngineState}

-- The sizes, and the four tables.
abbrev pub engine_state : Inside → EngineState
engine_state e = record { sizes = e.sizes; tables = record { regs = e.regs; maps = e.paired.table; apps = e.apps.table; ifaces = e.ifaces.table } }

-- Each table has its size, and the calls of all passes.
pub record IsEngine (e : Inside) : Type 0 where
  pub sizes : AreSizes e.sizes
  pub regs : e.regs.limits ≡ e.sizes.regs
  pub rows : e.paired.rows ≡ e.sizes.rows
  pub map_calls : e.paired.calls ≡ e.sizes.calls
  pub apps : e.apps.rows ≡ e.sizes.apps
  pub app_calls : e.apps.calls ≡ e.sizes.calls
  pub ifaces : e.ifaces.rows ≡ e.sizes.ifaces
  pub iface_calls : e.ifaces.calls ≡ e.sizes.calls

-- How a pass shows what it has.
use Rattle.std.specs.Prelude.{◌≡◌, ◌+◌, ◌≤◌, ◌^◌, None}
use Rattle.hook_engine.specs.declared.pass.Pass.TheInside.{Inside}
use Rattle.hook_engine.specs.Tables.{PassState}

-- What its four seats have.
abbrev pub pass_state : Inside → PassState
pass_state p = record {
  tables = record { regs = p.reader.origin; maps = p.hook.table; apps = p.apps.table; ifaces = p.ifaces.table };
  has = record {
    left = p.left;
    made = p.made;
    phase = p.hook.phase;
    writes = p.reader.known;
    charges = p.hook.charges;
    apps = p.apps.adds;
    ifaces = p.ifaces.adds;
    reads = p.reader.reads;
  };
  loads = p.reader.loads;
  loaded = p.reader.loaded;
  notes = p.apps.notes;
}

-- No call is under way. Each seat that spends calls has as many as the pass in all, and no fewer are left to it.
pub record IsPass (p : Inside) : Type 0 where
  pub outside : p.hook.entry ≡ None
  pub hook : p.hook.left + p.hook.made ≡ p.left + p.made
  pub apps : p.apps.left + p.apps.made ≡ p.left + p.made
  pub ifaces : p.ifaces.left + p.ifaces.made ≡ p.left + p.made
  pub hook_left : p.left ≤ p.hook.left
  pub apps_left : p.left ≤ p.apps.left
  pub ifaces_left : p.left ≤ p.ifaces.left
  pub few : p.left + p.made ≤ 2 ^ 28

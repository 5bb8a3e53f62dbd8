-- How many places each map of keys has, as the code keeps it beside the limits.
use Rattle.std.specs.Prelude.{◌≡◌}
use Rattle.acct_base.specs.declared.sizes.RegSizes.{RegSizes}
use Rattle.reg_words.specs.declared.map_rows.MapRows.{MapRows}

-- Each map has as many places as its limit.
pub record AreRowsOf (limits : RegSizes) (map_rows : MapRows) : Type 0 where
  pub cookies : map_rows.cookies ≡ limits.cookies
  pub sets : map_rows.sets ≡ limits.sets
  pub owners : map_rows.owners ≡ limits.owners

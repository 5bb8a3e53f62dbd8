-- A collection under way has all memory that its end needs.
use Rattle.std.specs.Prelude.{◌≡◌, ◌<◌, ◌≤◌, [], length, vec_capacity}
use Rattle.collector.specs.declared.collecting.Collecting.TheInside.{Inside}

-- There is room for the rows that a deletion takes out, and for one phase more on the shelf; the phase that ended was not the last.
pub record IsRoomy (c : Inside) : Type 0 where
  pub early : c.flipped.phase < 1024
  pub short : length c.shelf.phases < 1024
  pub spare : 1 ≤ c.shelf.spare
  pub empty : c.taken.items ≡ []
  pub wide : c.rows ≤ vec_capacity c.taken

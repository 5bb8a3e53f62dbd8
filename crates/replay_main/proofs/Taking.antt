-- How many bytes were taken off a source.
use Rattle.std.proofs.Common.{◌≡◌, ℕ, ◌≤◌, List, [], ◌++◌, arith, Option, length-append}
use Rattle.std.specs.Io.KnownBytes.{Keeps}
use Rattle.std.proofs.KnownBytes.{Consumes-nil, Consumes-kept, Consumes-trans}
use Rattle.outside.specs.Outside.{ConsumesUpTo}
use Rattle.replay_main.specs.declared.parts.Parts.{Parts}
use Rattle.replay_main.specs.declared.incoming.Incoming.{Incoming}
use Rattle.replay_main.specs.Incoming.{HasTaken, HasCome, ahead}

-- nothing more was taken
pub taken_none : (was now : Option (List ℕ)) (old new : Parts) → Keeps was now → old.count ≤ 268435457 → new.count ≡ old.count → HasTaken was now old new
taken_none was now old new keeps few same = record {
  got = [];
  read = Consumes-kept was was now [] (Consumes-nil was) keeps;
  counted = omega (arith, same);
  few = omega (arith, few, same);
}

pub taken_more : (was now then : Option (List ℕ)) (first mid cut new : Parts) → HasTaken was now first mid → cut.count ≡ mid.count → HasTaken now then cut new → HasTaken was then first new
taken_more was now then first mid cut new t same more = record {
  got = t.got ++ more.got;
  read = Consumes-trans was now then t.got more.got t.read more.read;
  counted = omega (arith, t.counted, same, more.counted, length-append t.got more.got);
  few = more.few;
}

-- what the cutter was fed is counted already
pub taken_same : (was now : Option (List ℕ)) (first mid cut : Parts) → HasTaken was now first mid → cut.count ≡ mid.count → HasTaken was now first cut
taken_same was now first mid cut t same = record {
  got = t.got;
  read = t.read;
  counted = omega (arith, t.counted, same);
  few = omega (arith, t.few, same);
}

-- what was taken of a script in all
pub none_up_to : (was : Option (List ℕ)) → ConsumesUpTo was was 268435457
none_up_to was = ([], omega arith, Consumes-nil was)

pub taken_up_to : (was now : Option (List ℕ)) (old new : Parts) → old.count ≡ 0 → HasTaken was now old new → ConsumesUpTo was now 268435457
taken_up_to was now old new none t = (t.got, omega (arith, none, t.counted, t.few), t.read)

pub come_up_to : (was now then : Option (List ℕ)) (i : Incoming) (new : Parts) (front : List ℕ) → HasCome was now i front → HasTaken now then i.parts new → ConsumesUpTo was then 268435457
come_up_to was now then i new front come t =
    let before = front ++ ahead i.parts in (
      before ++ t.got,
      omega (arith, come.given.counted, t.counted, t.few, length-append before t.got),
      Consumes-trans was now then before t.got come.given.read t.read,
    )

use Rattle.std.proofs.Common.{◌≡◌, ◌≤◌, ℕ, List, [], ◌∷◌, ◌++◌, length, subst, sym, arith}
use Rattle.captures.specs.Pcap.{StandFrom, GoesOn, behind}
use Rattle.captures.specs.declared.file.Endian.{Endian}
use Rattle.captures.proofs.Standing.{stand_push}
use Rattle.captures.proofs.capture.find_packets.Goals as goal

-- one packet more, up to the place behind it
one_more : (order : Endian) (bytes : List ℕ) (places more : List ℕ) (place next : ℕ) → StandFrom order bytes 24 places place → GoesOn order bytes place →
    next ≡ behind order bytes place → more ≡ places ++ place ∷ [] → StandFrom order bytes 24 more next × (next ≤ length bytes)
one_more order bytes places more place next stand goes e m =
    let there = goes.there in (
      subst (λ n. StandFrom order bytes 24 more n) (sym e) (subst (λ ps. StandFrom order bytes 24 ps (behind order bytes place)) (sym m) (stand_push order bytes 24 places place stand goes)),
      omega (arith, there, e),
    )

pub loop-place-preserved : goal.loop-place-preserved
loop-place-preserved c = one_more _ _ _ _ _ _ c.loop-place.invariant.0 c.in-Some.ensures.found c.in-Some.ensures.next (c.in_ok-push.ensures.ok)

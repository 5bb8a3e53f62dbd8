-- A shelf that grows by a phase, and what is recorded of apps then.
use Rattle.std.proofs.Common.{◌≡◌, ℕ, ◌+◌, ◌-◌, ◌≤◌, Bool, true, false, List, [], ◌∷◌, ◌++◌, length, refl, sym, ap, subst, ◌∙◌, arith}
use Rattle.std.specs.Prelude.{Option, None, Some, is_some, unwrap_or, ◌==◌}
use Rattle.std.specs.List.{AllZip}
use Rattle.std.proofs.lemmas.List.{length-append}
use Rattle.std.proofs.lemmas.Bool.{eqb-true, eq-eqb}
use Rattle.acct_base.specs.declared.amount.Amount.{Amount}
use Rattle.acct_base.specs.declared.amount.Snapshot.{Snapshot}
use Rattle.acct_base.specs.Amounts.{IsAtMost, minus, plus, zero_amount, amount_if}
use Rattle.acct_base.proofs.SumLemmas.{total_by-append}
use Rattle.acct_base.proofs.Keys.{plus_zero}
use Rattle.shelf.specs.declared.shelf.Deletion.{Deletion}
use Rattle.shelf.specs.Shelved.{Phases}
use Rattle.shelf.specs.Phases.{recorded_app, deleted_app, IsShelved, uid_of}
use Rattle.collector.specs.Collectors.{Gathered, IsLevel}
use Rattle.collector.specs.Collections.{Finished}
use Rattle.collector.specs.Deletions.{IsDropped, AppIsRead, AppIsKnown, IsKnown}

-- two lists stay in step when each grows by one
AllZip-push : {X Y : Type 0} (P : X → Y → Type 0) (xs : List X) (ys : List Y) (x : X) (y : Y) → AllZip P xs ys → P x y → AllZip P (xs ++ x ∷ []) (ys ++ y ∷ [])
AllZip-push P [] [] x y h p = (p, tt)
AllZip-push P [] (b ∷ ys) x y h p = absurd h
AllZip-push P (a ∷ xs) [] x y h p = absurd h
AllZip-push P (a ∷ xs) (b ∷ ys) x y h p = (h.0, AllZip-push P xs ys x y h.1 p)

at_most_trans : (a b c : Amount) → IsAtMost a b → IsAtMost b c → IsAtMost a c
at_most_trans a b c h k = record {
  rx_packets = omega (arith, h.rx_packets, k.rx_packets);
  rx_bytes = omega (arith, h.rx_bytes, k.rx_bytes);
  tx_packets = omega (arith, h.tx_packets, k.tx_packets);
  tx_bytes = omega (arith, h.tx_bytes, k.tx_bytes);
}

at_most_self : (a : Amount) → IsAtMost a a
at_most_self a = record { rx_packets = omega arith; rx_bytes = omega arith; tx_packets = omega arith; tx_bytes = omega arith }

put_back : (a b : ℕ) → a ≤ b → a + (b - a) ≡ b
put_back a b h = omega arith

-- what was taken from an amount makes it up again
plus_minus : (a b : Amount) → IsAtMost a b → plus a (minus b a) ≡ b
plus_minus a b h = λ i. record {
  rx_packets = put_back a.rx_packets b.rx_packets h.rx_packets i;
  rx_bytes = put_back a.rx_bytes b.rx_bytes h.rx_bytes i;
  tx_packets = put_back a.tx_packets b.tx_packets h.tx_packets i;
  tx_bytes = put_back a.tx_bytes b.tx_bytes h.tx_bytes i;
}

-- one phase more on the shelf
deleted_app-push : (phases : Phases) (p : Snapshot × Option Deletion) (uid : ℕ) → deleted_app (phases ++ p ∷ []) uid ≡ plus (deleted_app phases uid) (recorded_app uid p)
deleted_app-push phases p uid = total_by-append (recorded_app uid) phases (p ∷ []) ∙ ap (plus (deleted_app phases uid)) (plus_zero (recorded_app uid p))

module _ (phases : Phases) (known : ℕ → Amount) (least : (uid : ℕ) → IsAtMost (deleted_app phases uid) (known uid)) where
  nothing : (uid : ℕ) → IsAtMost (plus (deleted_app phases uid) zero_amount) (known uid)
  nothing uid = subst (λ (a : Amount). IsAtMost a (known uid)) (sym (plus_zero (deleted_app phases uid))) (least uid)

  -- what a deletion of the uid records makes up what is known of its app
  made_up : (uid : ℕ) (app : Option Amount) → is_some app ≡ true → app ≡ Some (minus (known uid) (deleted_app phases uid)) → plus (deleted_app phases uid) (unwrap_or app zero_amount) ≡ known uid
  made_up uid app some is = ap (λ (o : Option Amount). plus (deleted_app phases uid) (unwrap_or o zero_amount)) is ∙ plus_minus (deleted_app phases uid) (known uid) (least uid)

  own : (uid : ℕ) (app : Option Amount) → (is_some app ≡ true → app ≡ Some (minus (known uid) (deleted_app phases uid))) → IsAtMost (plus (deleted_app phases uid) (unwrap_or app zero_amount)) (known uid)
  own uid None read = nothing uid
  own uid (Some a) read = subst (λ (x : Amount). IsAtMost x (known uid)) (sym (made_up uid (Some a) refl (read refl))) (at_most_self (known uid))

  -- no uid's deletions record more than is known
  recorded : (p : Snapshot × Option Deletion) → AppIsRead phases known p.1 → (uid : ℕ) → IsAtMost (plus (deleted_app phases uid) (recorded_app uid p)) (known uid)
  recorded (snapshot, None) read uid = nothing uid
  recorded (snapshot, Some d) read uid = by (d.uid == uid) refl
    where
      by : (b : Bool) → d.uid == uid ≡ b → IsAtMost (plus (deleted_app phases uid) (amount_if b (unwrap_or d.app zero_amount))) (known uid)
      by false e = nothing uid
      by true e =
          let same : d.uid ≡ uid = eqb-true d.uid uid e in
          subst (λ (u : ℕ). IsAtMost (plus (deleted_app phases u) (unwrap_or d.app zero_amount)) (known u)) same (own d.uid d.app read)

  -- a deletion that records its uid's app leaves all of it recorded
  whole : (snapshot : Snapshot) (d : Deletion) → AppIsRead phases known (Some d) → is_some d.app ≡ true → deleted_app (phases ++ (snapshot, Some d) ∷ []) d.uid ≡ known d.uid
  whole snapshot d read some =
      deleted_app-push phases (snapshot, Some d) d.uid
      ∙ ap (λ (b : Bool). plus (deleted_app phases d.uid) (amount_if b (unwrap_or d.app zero_amount))) (eq-eqb d.uid d.uid refl)
      ∙ made_up d.uid d.app some (read some)

  all_known : (before : ℕ → Amount) → ((uid : ℕ) → IsAtMost (before uid) (known uid)) → (p : Snapshot × Option Deletion) → AppIsRead phases known p.1
      → AppIsKnown before known (deleted_app (phases ++ p ∷ []) (uid_of p.1)) p.1
  all_known before grows (snapshot, None) read = tt
  all_known before grows (snapshot, Some d) read = λ some.
      let e = whole snapshot d read some in record {
        least = subst (λ (a : Amount). IsAtMost (before d.uid) a) (sym e) (grows d.uid);
        most = subst (λ (a : Amount). IsAtMost a (known d.uid)) (sym e) (at_most_self (known d.uid));
      }

-- a level collector that put one phase more on its shelf
pub finishes : (drop : Option (ℕ × ℕ)) (before after : Gathered) (given : Snapshot) (shelved : Snapshot × Option Deletion) → IsLevel before
    → after.phase ≡ before.phase + 1 → after.given ≡ before.given ++ given ∷ [] → after.phases ≡ before.phases ++ shelved ∷ []
    → given.phase ≡ before.phase → IsShelved given shelved → IsDropped given.phase drop shelved.1 → AppIsRead before.phases after.known shelved.1
    → ((uid : ℕ) → IsAtMost (before.known uid) (after.known uid)) → Finished drop before after
finishes drop before after given shelved level next gave put of_phase is_shelved dropped read grows =
    let least : (uid : ℕ) → IsAtMost (deleted_app before.phases uid) (after.known uid) =
    λ uid. at_most_trans (deleted_app before.phases uid) (before.known uid) (after.known uid) (level.recorded uid) (grows uid) in
    record {
      given = given;
      shelved = shelved;
      gave = gave;
      put = put;
      is_shelved = is_shelved;
      dropped = subst (λ (n : ℕ). IsDropped n drop shelved.1) of_phase dropped;
      read = read;
      app = subst (λ (ps : Phases). AppIsKnown before.known after.known (deleted_app ps (uid_of shelved.1)) shelved.1) (sym put) (all_known before.phases after.known least before.known grows shelved read);
      known = grows;
      level = record {
        phase = next ∙ ap (λ (n : ℕ). n + 1) level.phase ∙ (let e = length-append before.phases (shelved ∷ []) in let p = ap length put in omega arith);
        shelved = subst (λ (gs : List Snapshot). AllZip IsShelved gs after.phases) (sym gave)
            (subst (AllZip IsShelved (before.given ++ given ∷ [])) (sym put) (AllZip-push IsShelved before.given before.phases given shelved level.shelved is_shelved));
        recorded = λ uid. subst (λ (ps : Phases). IsAtMost (deleted_app ps uid) (after.known uid)) (sym put)
            (subst (λ (a : Amount). IsAtMost a (after.known uid)) (sym (deleted_app-push before.phases shelved uid)) (recorded before.phases after.known least shelved read uid));
      };
    }

use Rattle.std.proofs.Common.{rules, ◌≡◌, ℕ, ◌≤◌, ◌<◌, List, ◌++◌, ◌∷◌, [], length, map, vec_capacity, vec_len, Vec, Global, refl, sym, ap, ◌∙◌, subst, arith, append_assoc, append-nil}
use Rattle.std.specs.Vec.Iter.{into_iter_items}
use Rattle.hook_engine.specs.Passes.{Pass}
use Rattle.lanes.specs.declared.lane.Seated.{Seated}
use Rattle.lanes.specs.Lanes.{AllJoined}
use Rattle.lanes.specs.Seats.{IsOf, pass_of, receipts_of}
use Rattle.lanes.proofs.ListLemmas.{all_at, map_snoc, mapped_length, item_next, is_within, nothing_left}
use Rattle.lanes.proofs.StepLemmas.{joined_more}
use Rattle.lanes.proofs.seating.gather.Goals as goal

pub loop-seat-init : goal.loop-seat-init
loop-seat-init c = record {
  parts = c.into_iter-seat-iterator.ensures.into_iter_gives.0;
  lens = let a = c.into_iter-seat-iterator.ensures.into_iter_gives.1 in let b = ap length c.into_iter-seat-iterator.ensures.into_iter_gives.0 in search rules;
  from = c.requires.from;
  joined = refl;
  receipts = c.requires.lanes.0;
  space = c.requires.lanes.1;
}

pub join-requires-clause-other : goal.join-requires-clause-other
join-requires-clause-other c =
    let at = c.loop-seat in
    let x : Seated = c.in-Some.seat in
    let steps : into_iter_items at.seat-iterator ≡ x ∷ into_iter_items c.next.new.self = c.in-Some.ensures.steps.0 in
    let parts : at.yielded ++ (x ∷ into_iter_items c.next.new.self) ≡ c.args.seats.items = rw (← steps) at.invariant.parts in
    all_at (IsOf c.args.engine.now) c.args.seats.items (length at.yielded) x c.requires.seats (item_next at.yielded (into_iter_items c.next.new.self) c.args.seats.items x parts)

fits : {A : Type 0} (v : Vec A Global) (k n : ℕ) → length v.items ≡ k → k < n → n ≤ vec_capacity v → vec_len v < vec_capacity v
fits v k n e h i = let a = v.ok.0 in omega arith

pub push_reserved-requires : goal.push_reserved-requires
push_reserved-requires c =
    let at = c.loop-seat in
    let i = at.invariant in
    let x : Seated = c.in-Some.seat in
    let steps : into_iter_items at.seat-iterator ≡ x ∷ into_iter_items c.next.new.self = c.in-Some.ensures.steps.0 in
    let parts : at.yielded ++ (x ∷ into_iter_items c.next.new.self) ≡ c.args.seats.items = rw (← steps) i.parts in
    let inside = is_within c.args.seats.items (length at.yielded) x (item_next at.yielded (into_iter_items c.next.new.self) c.args.seats.items x parts) in
    fits at.lanes (length at.yielded) (length c.args.seats.items) (ap length i.receipts ∙ mapped_length receipts_of at.yielded) inside i.space

pub loop-seat-preserved : goal.loop-seat-preserved
loop-seat-preserved c =
    let at = c.loop-seat in
    let i = at.invariant in
    let x : Seated = c.in-Some.seat in
    let steps : into_iter_items at.seat-iterator ≡ x ∷ into_iter_items c.next.new.self = c.in-Some.ensures.steps.0 in
    let parts : at.yielded ++ (x ∷ into_iter_items c.next.new.self) ≡ c.args.seats.items = rw (← steps) i.parts in
    record {
      parts = append_assoc at.yielded (x ∷ []) _ ∙ parts;
      lens = let a = ap length steps in let b = c.in-Some.ensures.steps.1 in let d = i.lens in omega arith;
      from = c.join.ensures.from ∙ i.from;
      joined = subst (λ (ps : List Pass). AllJoined c.args.pass.now.has ps c.join.new.pass.has) (sym (map_snoc pass_of at.yielded x)) (joined_more _ _ _ (pass_of x) _ i.joined c.join.ensures.joined);
      receipts = c.push_reserved.ensures.items ∙ (λ j. i.receipts j ++ c.into_list.ensures j ∷ []) ∙ sym (map_snoc receipts_of at.yielded x);
      space = search rules;
    }

pub returns : goal.returns
returns c =
    let at = c.loop-seat in
    let i = at.invariant in
    let empty : into_iter_items at.seat-iterator ≡ [] = nothing_left _ (i.lens ∙ c.in-None.ensures.steps.0) in
    let whole : at.yielded ≡ c.args.seats.items = sym (append-nil at.yielded) ∙ rw empty at i.parts in
    record {
      from = i.from;
      joined = subst (λ (xs : List Seated). AllJoined c.args.pass.now.has (map pass_of xs) at.pass.has) whole i.joined;
      receipts = i.receipts ∙ ap (map receipts_of) whole;
    }

use Rattle.std.proofs.Common.{◌≡◌, ◌∷◌, [], ◌++◌, rules, subst, ℕ}
use Rattle.acct_base.specs.declared.register.Key.TheVariants.{Cookie, Set, Owner, Enabled}
use Rattle.acct_base.specs.Receipts.{hook_call, keyed_read, settled_of}
use Rattle.hook_engine.specs.Steps.{DidRead}
use Rattle.hook_engine.proofs.Reading.{did_then}
use Rattle.hook_engine.proofs.look.look.Goals as goal

pub returns-then-counted-clause-did : goal.returns-then-counted-clause-did
returns-then-counted-clause-did c = let last = c.true_reads_last.ensures.in_turn in let call = hook_call c.args.call.now in
    let same : c.settle_read-settled.result.uid ≡ (settled_of call c.read-tag_seen.result c.read_if-rules_seen.result c.read_if-owner_seen.result).uid = search rules in
    let tag = (Cookie c.args.call.now.cookie, c.read-tag_seen.result) ∷ [] in
    let rules_read = keyed_read Enabled c.read_if-rules_seen.result in
    let owner_read = keyed_read (Owner c.args.call.now.sock_uid) c.read_if-owner_seen.result in
    let set_read = keyed_read (Set (settled_of call c.read-tag_seen.result c.read_if-rules_seen.result c.read_if-owner_seen.result).uid) c.read_if-set_seen.result in
    did_then last _ _ _ tag ((rules_read ++ owner_read) ++ set_read) c.read-tag_seen.ensures.did
    (did_then last _ _ _ (rules_read ++ owner_read) set_read (did_then last _ _ _ rules_read owner_read c.read_if-rules_seen.ensures.did c.read_if-owner_seen.ensures.did)
    (subst (λ (uid : ℕ). DidRead c.read_if-owner_seen.new.reader c.read_if-set_seen.new.reader (keyed_read (Set uid) c.read_if-set_seen.result)) same c.read_if-set_seen.ensures.did))

pub returns-else-counted-clause-did : goal.returns-else-counted-clause-did
returns-else-counted-clause-did c = let last = c.true_reads_last.ensures.in_turn in let call = hook_call c.args.call.now in
    let same : c.settle_read-settled.result.uid ≡ (settled_of call c.read-tag_seen.result c.read_if-rules_seen.result c.read_if-owner_seen.result).uid = search rules in
    let tag = (Cookie c.args.call.now.cookie, c.read-tag_seen.result) ∷ [] in
    let rules_read = keyed_read Enabled c.read_if-rules_seen.result in
    let owner_read = keyed_read (Owner c.args.call.now.sock_uid) c.read_if-owner_seen.result in
    let set_read = keyed_read (Set (settled_of call c.read-tag_seen.result c.read_if-rules_seen.result c.read_if-owner_seen.result).uid) c.read_if-set_seen.result in
    did_then last _ _ _ tag ((rules_read ++ owner_read) ++ set_read) c.read-tag_seen.ensures.did
    (did_then last _ _ _ (rules_read ++ owner_read) set_read (did_then last _ _ _ rules_read owner_read c.read_if-rules_seen.ensures.did c.read_if-owner_seen.ensures.did)
    (subst (λ (uid : ℕ). DidRead c.read_if-owner_seen.new.reader c.read_if-set_seen.new.reader (keyed_read (Set uid) c.read_if-set_seen.result)) same c.read_if-set_seen.ensures.did))

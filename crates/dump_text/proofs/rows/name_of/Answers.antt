use Rattle.std.proofs.Common.{◌≡◌, ℕ, List, true, Some, sym, ap, ◌∙◌}
use Rattle.std.specs.Prelude.{◌==◌, Option, option_map}
use Rattle.acct_base.proofs.Keys.{eqb_self}
use Rattle.dump_text.specs.Dump.{iface_name}
use Rattle.dump_text.proofs.TotalLemmas.{found_first, skipped, other_number}
use Rattle.dump_text.proofs.rows.name_of.Goals as goal

pub returns-then-index-iface : goal.returns-then-index-iface
returns-then-index-iface c =
    let items = c.as_slice-index-items.result.now in
    let item = c.loop-index-item.result in
    let iface = c.args.iface in
    let same : (item.0 == iface) ≡ true = ap (λ (k : ℕ). k == iface) c.if-index-iface.true ∙ eqb_self iface in
    ap (λ (name : List ℕ). Some name) c.as_slice.ensures
    ∙ sym (ap (λ (o : Option (ℕ × List ℕ)). option_map (λ (n : ℕ × List ℕ). n.1) o) (found_first (λ (n : ℕ × List ℕ). n.0 == iface) items c.loop-index.index-index item c.loop-index-test.true c.loop-index-item.is c.loop-index.invariant same))
    ∙ ap (λ (ns : List (ℕ × List ℕ)). iface_name ns iface) c.as_slice-index-items.ensures

pub loop-index-preserved : goal.loop-index-preserved
loop-index-preserved c =
    let iface = c.args.iface in
    skipped (λ (n : ℕ × List ℕ). n.0 == iface) c.as_slice-index-items.result.now c.loop-index.index-index c.loop-index-item.result c.loop-index-test.true c.loop-index-item.is c.loop-index.invariant (other_number c.loop-index-item.result.0 iface c.if-index-iface.false)

use Rattle.std.proofs.Common.{◌≡◌, ◌+◌, sym, subst, ap}
use Rattle.acct_base.specs.declared.receipt.Receipt.{Receipt}
use Rattle.acct_base.specs.declared.receipt.IfaceReceipt.{IfaceReceipt}
use Rattle.acct_base.specs.declared.receipt.ListReceipt.{ListReceipt}
use Rattle.acct_base.specs.declared.receipt.LineReceipt.{LineReceipt}
use Rattle.acct_base.specs.declared.receipt.LineReceipt.TheVariants as line
use Rattle.captures.specs.declared.calls.LineCall.{LineCall}
use Rattle.captures.specs.Lent.{call_of}
use Rattle.acct_plain.specs.Serial.{serial_line, after_call}
use Rattle.acct_plain.specs.Kept.{Keeps}
use Rattle.acct_plain.proofs.Walking.{allow_kept, deny_kept}
use Rattle.acct_plain.proofs.plain.Plain.line.Goals as goal

pub returns-in_ok-receipt-in-Hook-clause-keeps : goal.returns-in_ok-receipt-in-Hook-clause-keeps
returns-in_ok-receipt-in-Hook-clause-keeps c = λ past n k.
    let fact = c.in_ok-receipt-in-Hook.ensures.keeps past n k in
    let r : LineReceipt = line.Hook c.in_ok-receipt-in-Hook.receipt in
    subst (λ (x : LineCall). (r ≡ serial_line c.args.self.now.sizes past (call_of x)) × Keeps c.hook.new.self (after_call past (call_of x) r) (n + 3)) (sym c.in-Hook.is)
    (ap (λ (x : Receipt). line.Hook x) fact.0, fact.1)

pub returns-in_ok-receipt-in-Iface-clause-keeps : goal.returns-in_ok-receipt-in-Iface-clause-keeps
returns-in_ok-receipt-in-Iface-clause-keeps c = λ past n k.
    let fact = c.in_ok-receipt-in-Iface.ensures.keeps past n k in
    let r : LineReceipt = line.Iface c.in_ok-receipt-in-Iface.receipt in
    subst (λ (x : LineCall). (r ≡ serial_line c.args.self.now.sizes past (call_of x)) × Keeps c.iface.new.self (after_call past (call_of x) r) (n + 3)) (sym c.in-Iface.is)
    (ap (λ (x : IfaceReceipt). line.Iface x) fact.0, fact.1)

pub returns-in-Allow-clause-keeps : goal.returns-in-Allow-clause-keeps
returns-in-Allow-clause-keeps c = λ past n k.
    let r : LineReceipt = line.List c.allow.result in
    subst (λ (x : LineCall). (r ≡ serial_line c.args.self.now.sizes past (call_of x)) × Keeps c.args.self.now (after_call past (call_of x) r) (n + 3)) (sym c.in-Allow.is)
    (ap (λ (x : ListReceipt). line.List x) (c.allow.ensures past n k), allow_kept c.args.self.now past n c.in-Allow.sock_uid c.in-Allow.cookie c.in-Allow.received c.allow.result k)

pub returns-in-Deny-clause-keeps : goal.returns-in-Deny-clause-keeps
returns-in-Deny-clause-keeps c = λ past n k.
    let r : LineReceipt = line.List c.deny.result in
    subst (λ (x : LineCall). (r ≡ serial_line c.args.self.now.sizes past (call_of x)) × Keeps c.args.self.now (after_call past (call_of x) r) (n + 3)) (sym c.in-Deny.is)
    (ap (λ (x : ListReceipt). line.List x) (c.deny.ensures past n k), deny_kept c.args.self.now past n c.in-Deny.sock_uid c.deny.result k)

use Rattle.std.proofs.Common.{rules, sym, ◌∙◌, ap, Bool}
use Rattle.grace_core.specs.declared.view.At.TheVariants.{Adding}
use Rattle.grace_core.proofs.InCode.{there, packets_sum, bytes_sum, adds_packets, adds_bytes}
use Rattle.grace_core.proofs.hook_steps.add.Goals as goal

pub overflow_add-bytes : goal.overflow_add-bytes
overflow_add-bytes c = let a = c.in-Adding in let here = a.is ∙ ap (λ (b : Bool). Adding a.phase a.charges a.job a.row b) c.if-packets_done.true in
    let f = bytes_sum c.args.state.now c.requires c.args.hook c.in-Some.view.now (sym c.in-Some.ensures) a.phase a.charges a.row a.job c.bytes_column.result c.word_of-word.result c.get-then-packets_done.result
    here c.bytes_column.ensures.value c.word_of-word.ensures.value c.get-then-packets_done.ensures in search (rules, f)

pub record-requires-clause-there : goal.record-requires-clause-there
record-requires-clause-there c = there c.args.state.now c.requires c.args.hook c.in-Some.view.now (sym c.in-Some.ensures)

pub returns-then-packets_done-clause-ok : goal.returns-then-packets_done-clause-ok
returns-then-packets_done-clause-ok c = let a = c.in-Adding in let here = a.is ∙ ap (λ (b : Bool). Adding a.phase a.charges a.job a.row b) c.if-packets_done.true in
    adds_bytes c.args.state.now c.requires c.args.hook c.in-Some.view.now (sym c.in-Some.ensures) a.phase a.charges a.row a.job c.bytes_column.result c.word_of-word.result c.get-then-packets_done.result
    c.set.new.self c.record.new.self here c.bytes_column.ensures.value c.word_of-word.ensures.value c.get-then-packets_done.ensures c.set.ensures c.in_ok-record.ensures.ok

pub overflow_add-packets : goal.overflow_add-packets
overflow_add-packets c = let a = c.in-Adding in let here = a.is ∙ ap (λ (b : Bool). Adding a.phase a.charges a.job a.row b) c.if-packets_done.false in
    let f = packets_sum c.args.state.now c.requires c.args.hook c.in-Some.view.now (sym c.in-Some.ensures) a.phase a.charges a.row a.job c.packets_column.result c.word_of-word-2.result c.get-2.result
    here c.packets_column.ensures.value c.word_of-word-2.ensures.value c.get-2.ensures in search (rules, f)

pub stand-requires : goal.stand-requires
stand-requires c = there c.args.state.now c.requires c.args.hook c.in-Some.view.now (sym c.in-Some.ensures)

pub returns-clause-ok : goal.returns-clause-ok
returns-clause-ok c = let a = c.in-Adding in let here = a.is ∙ ap (λ (b : Bool). Adding a.phase a.charges a.job a.row b) c.if-packets_done.false in
    adds_packets c.args.state.now c.requires c.args.hook c.in-Some.view.now (sym c.in-Some.ensures) a.phase a.charges a.row a.job c.packets_column.result c.word_of-word-2.result c.get-2.result
    c.set-2.new.self c.stand.new.self here c.packets_column.ensures.value c.word_of-word-2.ensures.value c.get-2.ensures c.set-2.ensures c.stand.ensures

use Rattle.std.proofs.Common.{◌≡◌}
use Rattle.script_text.specs.Order.{follows, is_fresh}
use Rattle.script_text.specs.Drafts.{second_of}
use Rattle.script_text.proofs.NextLines.{fails_test}
use Rattle.script_text.proofs.next.next_line.Goals as goal

pub returns-in-Err-clause-syntax : goal.returns-in-Err-clause-syntax
returns-in-Err-clause-syntax c = λ n is.
    let h = c.in-Err.ensures.syntax n (let p = is in cc) in
    (h.0, record { bytes_fit = h.1; none = λ l more fits stands e. h.2 l more fits e })

pub returns-then-not-follows-clause-syntax : goal.returns-then-not-follows-clause-syntax
returns-then-not-follows-clause-syntax c = λ n is.
    let number : n ≡ c.args.number = cc in (
      number,
      record {
        bytes_fit = c.in-Ok.ensures.bytes;
        none = λ l more fits stands e. fails_test (follows c.args.place) l c.in-Ok.line c.args.rest.now more c.in-Ok.behind.now fits c.in-Ok.ensures.found.0 e c.in-Ok.ensures.found.1 stands.follows_is c.if-not-follows.ensures;
      },
    )

pub returns-then-not-is_fresh-clause-syntax : goal.returns-then-not-is_fresh-clause-syntax
returns-then-not-is_fresh-clause-syntax c = λ n is.
    let number : n ≡ c.args.number = cc in (
      number,
      record {
        bytes_fit = c.in-Ok.ensures.bytes;
        none = λ l more fits stands e. fails_test (is_fresh (second_of c.args.names.now)) l c.in-Ok.line c.args.rest.now more c.in-Ok.behind.now fits c.in-Ok.ensures.found.0 e c.in-Ok.ensures.found.1 stands.fresh_is c.if-not-is_fresh.ensures;
      },
    )

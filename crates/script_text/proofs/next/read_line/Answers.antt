use Rattle.std.proofs.Common.{◌≡◌, sym}
use Rattle.script_text.proofs.Lines.{sizes_cut, sizes_whole, line_read, line_size, no_line_without_feed, no_line_of_others}
use Rattle.script_text.proofs.next.read_line.Goals as goal

pub passed_by_bytes-requires-clause-bare : goal.passed_by_bytes-requires-clause-bare
passed_by_bytes-requires-clause-bare c = (sizes_whole c.args.rest.now c.in-None.ensures.none).0

pub passed_by_bytes-requires-clause-whole : goal.passed_by_bytes-requires-clause-whole
passed_by_bytes-requires-clause-whole c = (sizes_whole c.args.rest.now c.in-None.ensures.none).1

pub passed_by_bytes-requires-in-Some-clause-bare : goal.passed_by_bytes-requires-in-Some-clause-bare
passed_by_bytes-requires-in-Some-clause-bare c = (sizes_cut c.args.rest.now c.in-Some.text.now c.in-Some.behind.now c.in-Some.ensures.found c.in-Some.ensures.first).0

pub passed_by_bytes-requires-in-Some-clause-whole : goal.passed_by_bytes-requires-in-Some-clause-whole
passed_by_bytes-requires-in-Some-clause-whole c = (sizes_cut c.args.rest.now c.in-Some.text.now c.in-Some.behind.now c.in-Some.ensures.found c.in-Some.ensures.first).1

pub returns-in-None-passed_by_bytes-clause-syntax : goal.returns-in-None-passed_by_bytes-clause-syntax
returns-in-None-passed_by_bytes-clause-syntax c = λ n is.
    let number : n ≡ c.args.number = cc in
    (number, sym c.in-None-passed_by_bytes.ensures.which, λ l more fits e. no_line_without_feed c.args.rest.now more l c.in-None.ensures.none e)

pub returns-in-Ok-clause-found : goal.returns-in-Ok-clause-found
returns-in-Ok-clause-found c = (
  c.in-Ok.ensures.found.0,
  line_read c.in-Some.text.now c.in-Some.behind.now c.args.rest.now c.in-Ok.line c.in-Some.ensures.found c.in-Ok.ensures.found.1,
)

pub returns-in-Ok-clause-size : goal.returns-in-Ok-clause-size
returns-in-Ok-clause-size c = line_size c.in-Some.text.now c.in-Some.behind.now c.args.rest.now c.in-Ok.line c.in-Some.ensures.found c.in-Ok.ensures.found.1

pub returns-in-Err-Syntax-clause-syntax : goal.returns-in-Err-Syntax-clause-syntax
returns-in-Err-Syntax-clause-syntax c = λ n is.
    let number : n ≡ c.args.number = cc in
    (number, sym c.in-None-passed_by_bytes-2.ensures.which, λ l more fits e. no_line_of_others c.in-Some.text.now c.in-Some.behind.now c.args.rest.now more l c.in-Some.ensures.found c.in-Some.ensures.first (c.in-Err-Syntax.ensures.syntax (let p = c.in-Err-Syntax.field-0-is in cc)) fits e)

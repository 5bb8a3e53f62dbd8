use Rattle.script_text.proofs.Wholes.{script_grows, header_whole, section_whole, syntax_goes_on, limit_goes_on}
use Rattle.script_text.proofs.laws.script_by_parts.Goals as goal

pub returns-clause-grows : goal.returns-clause-grows
returns-clause-grows c = script_grows

pub returns-clause-header : goal.returns-clause-header
returns-clause-header c = header_whole

pub returns-clause-section : goal.returns-clause-section
returns-clause-section c = section_whole

pub returns-clause-syntax : goal.returns-clause-syntax
returns-clause-syntax c = syntax_goes_on

pub returns-clause-limit : goal.returns-clause-limit
returns-clause-limit c = limit_goes_on

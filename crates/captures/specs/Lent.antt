-- The calls of a section as the code holds them.
use Rattle.std.specs.Prelude.{ℕ, List, [], Option, option_copied, unwrap_or}
use Rattle.std.specs.Borrow.{Bor}
use Rattle.acct_base.specs.Receipts.{Call, hook_call}
use Rattle.acct_base.specs.Receipts.Call.{Hook, Iface, Allow, Deny}
use Rattle.desk_core.specs.declared.command.Command.{Command}
use Rattle.captures.specs.declared.calls.LineCall.{LineCall}
use Rattle.captures.specs.declared.calls.LineCall.TheVariants as line
use Rattle.captures.specs.declared.calls.Calls.{Calls}
use Rattle.captures.specs.Calls.{SectionCalls}

-- A call, without where its bytes lie in memory.
abbrev pub call_of : LineCall → Call
call_of (line.Hook c) = Hook (hook_call c)
call_of (line.Iface c) = Iface c
call_of (line.Allow sock_uid cookie received) = Allow sock_uid cookie received
call_of (line.Deny sock_uid) = Deny sock_uid

abbrev pub numbered_call : ℕ × LineCall → ℕ × Call
numbered_call p = (p.0, call_of p.1)

-- The commands of a desk, where there is one.
abbrev pub desk_of : Option (Bor (List (ℕ × Command))) → List (ℕ × Command)
desk_of desk = unwrap_or (option_copied desk) []

abbrev pub section_calls : Calls → SectionCalls
section_calls c = record { lanes = c.lanes; desk = desk_of c.desk }

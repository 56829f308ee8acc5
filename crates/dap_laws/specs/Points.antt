-- What the laws say of a program's breakpoints.
use Rattle.std.specs.Prelude.{◌≡◌, ℕ, List, ◌++◌, true, false, Option, Some, None, Ok, option_and_then}
use Rattle.std.specs.Prelude.{option_map}
use Rattle.std.specs.List.{Contains}
use Rattle.base_text.specs.Bytes.{Text}
use Rattle.lab_image.specs.Loads.{origin_of}
use Rattle.lab_image.specs.Sources.{source_at}
use Rattle.lab_core.specs.Board.{Board}
use Rattle.dap_messages.specs.declared.message.PlacedBreakpoint.{PlacedBreakpoint}
use Rattle.dap_messages.specs.declared.message.GotoTarget.{GotoTarget}
use Rattle.dap_expr.specs.declared.expression.Expression.{Expression}
use Rattle.dap_log.specs.declared.message.LogMessage.{LogMessage}
use Rattle.dap_slice.specs.declared.conditions.ConditionalBreakpoint.{ConditionalBreakpoint}
use Rattle.dap_slice.specs.declared.conditions.Trigger.TheVariants.{Address}
use Rattle.dap_slice.specs.declared.hits.HitCondition.{HitCondition}
use Rattle.dap_points.specs.Boards.{is_plain}
use Rattle.lab_image.specs.Breakpoints.{is_met}
use Rattle.dap_conditions.specs.Conditions.{condition_read, hits_read, log_read, log_point, stop_at, own_stop}
use Rattle.dap_disassembly.specs.Targets.{first_target}
use Rattle.dap_breakpoints.specs.Lines.{lines_on, labels_on}
use Rattle.dap_run.specs.declared.program.Program.{Program}
use Rattle.dap_breakpoints.specs.Arming.{ProgramLists, armed_for, conditional_for}

-- what is told of the breakpoints on lines and at labels that are wanted of a program
abbrev pub told_on : Board → ProgramLists → List PlacedBreakpoint
told_on b w = lines_on b w.number w.lines ++ labels_on b w.functions

-- one of them has no options, and is told as verified on this line
pub record IsVerified (w : ProgramLists) (b : Board) (line : ℕ) : Type 0 where
  pub point : PlacedBreakpoint
  pub told : Contains (told_on b w) point
  pub is_verified : point.is_verified ≡ true
  pub plain : is_plain point.options ≡ true
  pub on : point.line ≡ Some line

-- a statement on this line of the program begins at the address
pub record BeginsOn (p : Program) (line : ℕ) (b : Board) (address : ℕ) : Type 0 where
  pub number : ℕ
  pub text : Text
  pub source : source_at b.sources p.launch.program ≡ Some (number, text)
  pub origin : origin_of b.loads address ≡ Some (record { source = number; line = line; is_first = true })

-- the board stops at the address, and a debugged run knows the breakpoint's number there
abbrev pub IsMetByBoard : {line : ℕ} (p : Program) (w : ProgramLists) (b : Board) → IsVerified w b line → ℕ
    → Type 0
IsMetByBoard {line} p w b v address =
    (is_met (armed_for p w b).breakpoints b.loads address ≡ true)
    × (p.launch.is_debugged ≡ true → Contains (conditional_for p w b) (own_stop v.point.id line))

-- the slices of a debugged run look where the first statement on the line begins
abbrev pub IsMetInSlices : {line : ℕ} (p : Program) (w : ProgramLists) (b : Board) → IsVerified w b line
    → Type 0
IsMetInSlices {line} p w b v = (target : GotoTarget) → first_target b line ≡ Some target
    → p.launch.is_debugged ≡ true
    → Contains (conditional_for p w b) (stop_at v.point.id (Address target.address) None None)

-- ---- options

-- a breakpoint of a program with this log message on the target's line
abbrev pub with_message : Program → GotoTarget → Option LogMessage → ConditionalBreakpoint
    → ConditionalBreakpoint
with_message p target message at = record at { log = option_map (log_point p.launch.program target) message }

-- it has options, whose texts are read so, and asks for this where the first statement on its line begins
pub record AsksFor (p : Program) (b : Board) (point : PlacedBreakpoint) (kept : ConditionalBreakpoint)
    : Type 0 where
  pub is_debugged : p.launch.is_debugged ≡ true
  pub some : is_plain point.options ≡ false
  pub target : GotoTarget
  pub begins : option_and_then (first_target b) point.line ≡ Some target
  pub condition : Option Expression
  pub condition_is : condition_read point.options.condition ≡ Ok condition
  pub hits : Option HitCondition
  pub hits_are : hits_read point.options.hit_condition ≡ Some hits
  pub message : Option LogMessage
  pub message_is : log_read point.options.log_message ≡ Ok message
  pub kept_is : kept
      ≡ with_message p target message (stop_at point.id (Address target.address) condition hits)

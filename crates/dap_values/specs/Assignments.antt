-- Changes of places and variables (Debug Adapter Protocol, `setExpression` and `setVariable`).
use Rattle.std.specs.Prelude.{ℕ, Option, Some, None, Result, Ok, Err}
use Rattle.base_text.specs.Bytes.{Text}
use Rattle.i80_exec.specs.declared.registers.Registers.{Registers}
use Rattle.asm_syntax.specs.Outcome.{◌>>=◌}
use Rattle.lab_core.specs.Board.{Board}
use Rattle.dap_history.specs.declared.input.Input.{Input}
use Rattle.dap_messages.specs.declared.message.ValueFormat.{ValueFormat}
use Rattle.dap_values.specs.declared.change.ChangeFault.{ChangeFault}
use Rattle.dap_values.specs.declared.target.Target.{Target}
use Rattle.dap_values.specs.Targets.{target_on}
use Rattle.dap_values.specs.Changes.{value_taken, input_of}
use Rattle.dap_values.specs.declared.assignment.SetValue.{SetValue}
use Rattle.dap_values.specs.declared.fault.LookFault.{LookFault}
use Rattle.dap_values.specs.declared.fault.LookFault.TheVariants as fault
use Rattle.dap_values.specs.Faults.{change_fault}
use Rattle.dap_values.specs.Shown.{shown_as}
use Rattle.dap_values.specs.Evaluation.{expression_read, value_read}
use Rattle.dap_values.specs.Variables.{variable_target}

-- ---- a place gets a value

abbrev pub or_fault : Result Input ChangeFault → Result Input LookFault
or_fault (Ok i) = Ok i
or_fault (Err why) = Err (change_fault why)

-- the input, and how the place is shown after it
abbrev pub set_to : Registers → Target → ℕ → ValueFormat → Result SetValue LookFault
set_to regs t value format = do
  i ← or_fault (input_of regs t value)
  Ok (record { input = i; shown = shown_as regs t (value_taken t value) format })

-- ---- by texts

-- by the value of an expression
abbrev pub set_by : Board → Target → Text → ValueFormat → Result SetValue LookFault
set_by b t text format = value_read b text >>= λ value. set_to b.machine.regs t value format

abbrev pub or_no_place : Option Target → Result Target LookFault
or_no_place (Some t) = Ok t
or_no_place None = Err fault.NoPlace

-- the place that an expression names
abbrev pub target_read : Board → Text → Result Target LookFault
target_read b text = expression_read text >>= λ e. or_no_place (target_on b e)

abbrev pub expression_set : Board → Text → Text → ValueFormat → Result SetValue LookFault
expression_set b expression value format = target_read b expression >>= λ t. set_by b t value format

abbrev pub or_no_variable : Option Target → Result Target LookFault
or_no_variable (Some t) = Ok t
or_no_variable None = Err fault.NoVariable

abbrev pub variable_set : Board → ℕ → Text → Text → ValueFormat → Result SetValue LookFault
variable_set b reference name value format =
    or_no_variable (variable_target reference name) >>= λ t. set_by b t value format

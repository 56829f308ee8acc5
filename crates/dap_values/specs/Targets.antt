-- The places that expressions name, and what they hold.
use Rattle.std.specs.Prelude.{ℕ, ◌+◌, ◌==◌, List, [], ◌∷◌, length, take, Option, Some, None, Result, Ok, Err}
use Rattle.std.specs.Prelude.{nat_lt, option_map, option_and_then, slice_get, if◌then◌else◌}
use Rattle.i80_base.specs.declared.instruction.Reg.TheVariants as reg
use Rattle.i80_exec.specs.State.{MachineState, byte_at, word_at, get}
use Rattle.asm_expr.specs.Tree as tree
use Rattle.asm_expr.specs.Tree.{Tree}
use Rattle.asm_expr.specs.declared.evaluation.ExprFault.{ExprFault}
use Rattle.asm_syntax.specs.declared.keyword.RegisterWord.TheVariants as word
use Rattle.asm_syntax.specs.Outcome.{◌>>=◌}
use Rattle.asm_build.specs.Reading.{or_else}
use Rattle.lab_core.specs.Board.{Board}
use Rattle.dap_expr.specs.declared.brackets.Read.{Read}
use Rattle.dap_expr.specs.declared.brackets.Width.{Width}
use Rattle.dap_expr.specs.declared.brackets.Width.TheVariants as width
use Rattle.dap_expr.specs.declared.clause.Clause.{Clause}
use Rattle.dap_expr.specs.declared.clause.Sense.{Sense}
use Rattle.dap_expr.specs.declared.clause.Sense.TheVariants as sense
use Rattle.dap_expr.specs.declared.expression.Expression.{Expression}
use Rattle.dap_expr.specs.declared.part.Part.{Part}
use Rattle.dap_expr.specs.declared.part.Part.TheVariants as part
use Rattle.dap_expr.specs.declared.term.Term.{Term}
use Rattle.dap_expr.specs.Parts.{part_owning, part_named, part_value}
use Rattle.dap_expr.specs.Values.{symbol_value, read_values, tree_value}
use Rattle.dap_values.specs.declared.target.Target.{Target}
use Rattle.dap_values.specs.declared.target.Target.TheVariants as target
use Rattle.dap_values.specs.declared.target.Size.{Size}
use Rattle.dap_values.specs.declared.target.Size.TheVariants as size

-- ---- a read

-- the place at the value of an address
abbrev pub at_address : Width → Result ℕ ExprFault → Option Target
at_address width.Byte (Ok address) = Some (target.Byte address)
at_address width.Word (Ok address) = Some (target.Word address)
at_address w (Err fault) = None

-- the value of a read's address after the reads before it
abbrev pub address_after : Board → List Read → Read → Result ℕ ExprFault
address_after b before read = read_values b before >>= λ values. tree_value b values read.address

abbrev pub read_target : Board → List Read → Option Read → Option Target
read_target b before (Some read) = at_address read.width (address_after b before read)
read_target b before None = None

-- the place of the read with this number, if it is the last one
abbrev pub last_read : Board → List Read → ℕ → Option Target
last_read b reads number =
    if number + 1 == length reads then read_target b (take number reads) (slice_get reads number) else None

-- the number of the read that a name stands for
abbrev pub read_number : List ℕ → Option ℕ
read_number (number ∷ []) = if nat_lt number 16 then Some number else None
read_number _ = None

-- ---- a part

-- a symbol hides a part that doesn't alone have its name
abbrev pub part_unless : Option ℕ → List ℕ → Option Part
part_unless (Some value) x = None
part_unless None x = part_named x

-- the part that a name stands for
abbrev pub part_on : Board → List ℕ → Option Part
part_on b x = or_else (part_owning x) (part_unless (symbol_value b x) x)

-- ---- an expression

-- a part is named where nothing is read
abbrev pub part_target : Board → List Read → List ℕ → Option Target
part_target b [] x = option_map (λ p. target.Part p) (part_on b x)
part_target b reads x = None

abbrev pub numbered_or_part : Board → List Read → List ℕ → Option ℕ → Option Target
numbered_or_part b reads x (Some number) = last_read b reads number
numbered_or_part b reads x None = part_target b reads x

-- the place that a name stands for, after these reads
abbrev pub named_target : Board → List Read → List ℕ → Option Target
named_target b reads x = numbered_or_part b reads x (read_number x)

-- the name that a tree is, if it is one
abbrev pub name_alone : Tree → Option (List ℕ)
name_alone (tree.Named x) = Some x
name_alone other = None

abbrev pub term_target : Board → Term → Option Target
term_target b t = option_and_then (named_target b t.reads) (name_alone t.tree)

abbrev pub target_in : Board → Sense → Term → Option Target
target_in b sense.Plain t = term_target b t
target_in b s t = None

abbrev pub clause_target : Board → Clause → Option Target
clause_target b c = target_in b c.sense c.term

abbrev pub clauses_target : Board → List Clause → Option Target
clauses_target b (c ∷ []) = clause_target b c
clauses_target b cs = None

-- the place that an expression is
abbrev pub target_on : Board → Expression → Option Target
target_on b e = clauses_target b e.clauses

-- ---- what it holds

abbrev pub part_size : Part → Size
part_size (part.Register word.Sp) = size.Word
part_size (part.Register word.Psw) = size.Word
part_size (part.Register name) = size.Byte
part_size part.Bc = size.Word
part_size part.De = size.Word
part_size part.Hl = size.Word
part_size part.Pc = size.Word
part_size flag = size.Flag

abbrev pub size_of : Target → Size
size_of (target.Part p) = part_size p
size_of (target.Byte address) = size.Byte
size_of (target.Word address) = size.Word

abbrev pub largest : Size → ℕ
largest size.Flag = 1
largest size.Byte = 255
largest size.Word = 65535

abbrev pub value_at : MachineState → Target → ℕ
value_at m (target.Part p) = part_value m.regs (get m reg.M) p
value_at m (target.Byte address) = byte_at m address
value_at m (target.Word address) = word_at m address

-- What is taken from an inbox.
use Rattle.std.specs.Prelude.{Option, Some, None, List, [], ◌∷◌}
use Rattle.base_text.specs.Bytes.{Bytes}
use Rattle.dap_debugger.specs.declared.incoming.StreamEnd.{StreamEnd}
use Rattle.dap_debugger.specs.declared.incoming.Incoming.{Incoming}
use Rattle.dap_debugger.specs.declared.incoming.Incoming.TheVariants.{Body, Nothing, End}

-- the body that came first, or why no more come, if that is known
abbrev pub first_of : List Bytes → Option StreamEnd → Incoming
first_of (body ∷ bodies) end = Body body
first_of [] None = Nothing
first_of [] (Some end) = End end

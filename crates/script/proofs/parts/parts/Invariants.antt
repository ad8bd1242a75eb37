use Rattle.std.proofs.Common.{◌≡◌, ◌-◌}
use Rattle.script.specs.Parts.{parts, all_parts}
use Rattle.script.proofs.parts.parts.Given as goal

-- what is left to read comes to the whole
abbrev pub invariant-loop : goal.invariant-loop
invariant-loop l = parts (l.end - l.counter) l.at l.operations l.words.place l.words.rest.now ≡ all_parts l.at l.fn.words.place l.fn.words.rest.now

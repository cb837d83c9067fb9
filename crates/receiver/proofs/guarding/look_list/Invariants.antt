use Rattle.std.proofs.Common.{map}
use Rattle.send_commands.specs.Meaning.{meaning_of}
use Rattle.guard_rules.proofs.Questions.{IsAsked}
use Rattle.receiver.proofs.guarding.look_list.Given as goal

abbrev pub invariant-loop-place : goal.invariant-loop-place
invariant-loop-place g l = IsAsked (map g.G.Guard.kept l.fn.guards) (map g.G.Guard.kept l.guards) l.place (meaning_of l.fn.command)

use Rattle.send_commands.specs.Meaning.{meaning_of}
use Rattle.compose_tests.proofs.Silents.{led_had}
use Rattle.compose_tests.proofs.silent_tests.led.Goals as goal

pub returns-in-Ok-clause-had : goal.returns-in-Ok-clause-had
returns-in-Ok-clause-had c =
    led_had c.args.key.now (record { store = c.args.core.now; part = c.args.part.now }) (record { store = c.step.new.self; part = c.step.new.part }) (meaning_of c.args.c.now) c.requires.short c.requires.had c.in-Ok.ensures.stepped

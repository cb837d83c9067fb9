-- What a guard of any kind keeps: what the one inside keeps.
use Rattle.send_model.specs.Guards.{Guard, new_guard, NoDevices}
use Rattle.guard_rules.specs.declared.any_guard.AnyGuard.{AnyGuard}
use Rattle.guard_rules.specs.declared.any_guard.AnyGuard.TheVariants as any

abbrev pub any_kept : AnyGuard → Guard
any_kept (any.Bytes guard) = guard
any_kept (any.Commands guard) = guard
any_kept (any.NoDevices guard) = new_guard NoDevices
any_kept (any.End guard) = guard

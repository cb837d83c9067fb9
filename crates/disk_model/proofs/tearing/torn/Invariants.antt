use Rattle.std.proofs.Common.{◌≡◌, ◌-◌, ◌≤◌, ◌++◌, length, take, replicate}
use Rattle.sx_base.specs.Disk.{Agrees}
use Rattle.disk_model.specs.Stretch.{known_of}
use Rattle.disk_model.specs.Torn.{with_zeros}
use Rattle.disk_model.proofs.tearing.torn.Given as goal

abbrev pub invariant-loop-place : goal.invariant-loop-place
invariant-loop-place l = record {
  agrees : Agrees (known_of (take l.place l.stretch.touched.items) l.stretch.bytes.items) l.image.items;
  long : length l.image.items ≡ l.place;
  stable : l.choice ≡ 1 → l.image.items ≡ with_zeros (known_of (take l.place l.stretch.touched.items) l.stretch.bytes.items);
}

abbrev pub invariant-loop-place-2 : goal.invariant-loop-place-2
invariant-loop-place-2 l = record {
  agrees : Agrees (known_of l.stretch.touched.items l.stretch.bytes.items) l.image.items;
  long : length l.image.items ≡ l.place;
  beyond : length l.stretch.touched.items ≤ l.place;
  stable : l.choice ≡ 1 → l.image.items ≡ with_zeros (known_of l.stretch.touched.items l.stretch.bytes.items) ++ replicate (l.place - length l.stretch.touched.items) 0;
}

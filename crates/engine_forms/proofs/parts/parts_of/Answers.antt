use Rattle.std.proofs.Common.{refl}
use Rattle.engine_forms.proofs.parts.parts_of.Goals as goal

pub returns : goal.returns
returns c = rw (
  c.in_ok-from_str.ensures,
  c.as_str.ensures.value,
  c.in_ok-from_str-2.ensures,
  c.scheme.ensures.value,
  c.in_ok-from_str-3.ensures,
  c.username.ensures,
  c.in_ok-from_str-4.ensures,
  c.password.ensures,
  c.in_ok-copied.ensures,
  c.host_str.ensures,
  c.port.ensures.value,
  c.in_ok-from_str-5.ensures,
  c.path.ensures.value,
  c.in_ok-copied-2.ensures,
  c.query.ensures.value,
  c.in_ok-copied-3.ensures,
  c.fragment.ensures.value,
)
    refl

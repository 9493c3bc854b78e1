use Rattle.std.proofs.Common.{refl}
use Rattle.key_host.proofs.local.go_six.Goals as goal

pub returns : goal.returns
returns g c = (
  c.go.new.port,
  c.go.ensures,
  (
    c.go-2.new.port,
    c.go-2.ensures,
    (
      c.go-3.new.port,
      c.go-3.ensures,
      (c.go-4.new.port, c.go-4.ensures, (c.go-5.new.port, c.go-5.ensures, (c.go-6.new.port, c.go-6.ensures, refl))),
    ),
  ),
)

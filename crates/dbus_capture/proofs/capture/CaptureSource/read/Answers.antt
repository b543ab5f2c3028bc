use Rattle.dbus_capture.proofs.BeginSteps.{input_gives, input_fails, input_packets}
use Rattle.dbus_capture.proofs.capture.CaptureSource.read.Goals as goal

pub returns-clause-bytes : goal.returns-clause-bytes
returns-clause-bytes g c =
    input_gives g.R.Source.left g.R.Source.calls g.R.Source.failures _ c.read-read.new.self c.read-read.new.buffer c.read-read.result c.read-read.ensures.input

pub returns-clause-failed : goal.returns-clause-failed
returns-clause-failed g c =
    input_fails g.R.Source.left g.R.Source.calls g.R.Source.failures _ c.read-read.new.self c.read-read.new.buffer c.read-read.result c.read-read.ensures.input

pub returns-clause-of_packet : goal.returns-clause-of_packet
returns-clause-of_packet g c =
    rw c.last_packet-self.ensures (input_packets g.R.Source.left g.R.Source.calls g.R.Source.failures _ c.read-read.new.self c.read-read.new.buffer c.read-read.result _
    c.read-read.ensures.bound c.read-read.ensures.input)

-- The types of the code that the definitions speak of.
pub use Rattle.dbus_device.specs.declared.device_fault.DeviceFault.{DeviceFault}
pub use Rattle.dbus_device.specs.declared.packet.Packet.{Packet}
pub use Rattle.dbus_capture.specs.declared.byte_order.ByteOrder.{ByteOrder}
pub use Rattle.dbus_capture.specs.declared.byte_order.ByteOrder.TheVariants.{Little, Big}
pub use Rattle.dbus_capture.specs.declared.fault.CaptureFault.{CaptureFault}
pub use Rattle.dbus_capture.specs.declared.fault.CaptureReason.{CaptureReason}
pub use Rattle.dbus_capture.specs.declared.fault.CaptureReason.TheVariants.{Magic, Version, LinkType, Lengths, PacketCut, BlockLength}
pub use Rattle.dbus_capture.specs.declared.fault.CaptureReason.TheVariants.{BlockLengths, OrderMark, OptionLength, TooManyInterfaces}
pub use Rattle.dbus_capture.specs.declared.fault.CaptureReason.TheVariants.{NoInterface, Truncated}
pub use Rattle.dbus_capture.specs.declared.interface.Interface.{Interface}
pub use Rattle.dbus_capture.specs.declared.packet.PacketHead.{PacketHead}
pub use Rattle.dbus_capture.specs.declared.scan.Scan.{Scan}
pub use Rattle.dbus_capture.specs.declared.stage.Stage.{Stage}
pub use Rattle.dbus_capture.specs.declared.stage.Stage.TheVariants.{Raw, FileHeader, Record, Section, Block, InterfaceHead, OptionHead}
pub use Rattle.dbus_capture.specs.declared.stage.Stage.TheVariants.{Resolution, InterfaceTrailer, Enhanced, ObsoletePacket, Simple, RecordFront, BlockFront, Trailer}

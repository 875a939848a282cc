-- What contracts see of a device whose pixels may not be written yet.
use Rattle.draw_device.specs.Devices.{DeviceView}
use Rattle.draw_device.specs.Grids.{blank_view}
use Rattle.draw_device.specs.declared.lazy.Memory.{Memory}
use Rattle.draw_device.specs.declared.lazy.Memory.TheVariants.{Room, Written}

-- blank pixels, until they are written
abbrev pub memory_view : Memory → DeviceView
memory_view (Room room) = blank_view room.extent
memory_view (Written device) = device

-- they are written
abbrev pub IsWritten : Memory → Type 0
IsWritten (Room room) = ⊥
IsWritten (Written device) = Unit {0}

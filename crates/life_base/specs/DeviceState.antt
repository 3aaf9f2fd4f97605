-- What a device over a reader or a writer of std keeps. The project's own.
use Rattle.std.specs.Prelude.{◌≡◌, Bool, false}
use Rattle.life_base.specs.declared.devices.Device.{Device}

-- the reader or writer in a device
abbrev pub device_inner : {T : Type 0} → Device T → T
device_inner device = device.inner

-- whether a call on the device has failed
abbrev pub has_failed : {T : Type 0} → Device T → Bool
has_failed device = device.failed

-- whether a write took no byte of those that it was given
abbrev pub has_stalled : {T : Type 0} → Device T → Bool
has_stalled device = device.stalled

-- whether the last call was a flush that didn't fail
abbrev pub is_flushed : {T : Type 0} → Device T → Bool
is_flushed device = device.flushed

-- no call on the device has failed, no write took no bytes, and nothing was flushed
pub record IsFreshDevice {T : Type 0} (device : Device T) : Type 0 where
  pub failed : device.failed ≡ false
  pub stalled : device.stalled ≡ false
  pub flushed : device.flushed ≡ false

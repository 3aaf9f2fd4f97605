-- Which file a word names, and in which order the files of a plan are opened. The project's own.
use Rattle.std.specs.Prelude.{◌≡◌, ◌⊎◌, List, ℕ, Option, Some, None, Result, Ok, Err, string_bytes, option_map}
use Rattle.std.specs.declared.io.Error.{Error as IoError}
use Rattle.life_base.specs.DeviceState.{device_inner}
use Rattle.life_base.specs.declared.devices.Device.{Device}
use Rattle.life_cli.specs.declared.origins.Opened.{Opened}
use Rattle.command_line.specs.declared.origins.Origin.{Origin}
use Rattle.command_line.specs.Origins.{OpenerGives}
use Rattle.command_line.specs.declared.plans.TaskPlan.{TaskPlan}

module _ {F R : Type 0} (step : F → Origin → Result (Opened R) IoError → F → Type 0) where
  -- the call gave what the device reads
  abbrev pub Opens : List ℕ → F → Device R → F → Type 0
  Opens word before device after = (opened : Opened R) × OpenerGives step word before (Ok opened) after × (device_inner device ≡ opened.input)

  -- the call gave nothing to read
  abbrev pub Fails : List ℕ → F → Type 0
  Fails word before = (error : IoError) × (after : F) × OpenerGives step word before (Err error) after

  -- the second file, if there is one, was opened
  abbrev pub OpensSecond : Option (List ℕ) → F → Option (Device R) → Type 0
  OpensSecond None before None = Unit {0}
  OpensSecond (Some word) before (Some device) = (after : F) × Opens word before device after
  OpensSecond _ before _ = ⊥

  abbrev pub second_word : TaskPlan → Option (List ℕ)
  second_word plan = option_map string_bytes plan.second

  -- the first file was opened, and then the second
  abbrev pub OpensFiles : TaskPlan → F → Device R × Option (Device R) → Type 0
  OpensFiles plan opener files =
      (between : F) × Opens (string_bytes plan.first) opener files.0 between × OpensSecond (second_word plan) between files.1

  -- the first file could not be opened; or it could, and then the second could not
  abbrev pub FailsToOpen : TaskPlan → F → Type 0
  FailsToOpen plan opener = Fails (string_bytes plan.first) opener
      ⊎ ((device : Device R) × (between : F) × (word : List ℕ) × Opens (string_bytes plan.first) opener device between
      × (second_word plan ≡ Some word) × Fails word between)

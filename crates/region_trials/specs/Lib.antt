pub mod FreePasses
pub mod ScriptRounds

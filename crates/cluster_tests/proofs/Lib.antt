mod Pushed
mod Looked
